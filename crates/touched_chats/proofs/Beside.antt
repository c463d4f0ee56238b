-- Where a mail comes, or leaves, or one comes in place of another, beside the same others: a chat that they are not near
-- stays, and so does the name of an address that they don't write from.
use Rattle.std.proofs.Common.{◌≡◌, refl, sym, ap, ◌∙◌, Bool, true, false, ◌&&◌, Option, Some, None, List, map}
use Rattle.std.specs.Prelude.{filter, IfSome, unwrap_or}
use Rattle.std.specs.Option.{option_map}
use Rattle.std.proofs.lemmas.Bool.{and_right}
use Rattle.card_type.specs.declared.card.Card.{Card}
use Rattle.card_type.specs.declared.key.ChatKey.{ChatKey}
use Rattle.card_type.specs.Effects.{is_among, names}
use Rattle.lists.proofs.Rising.{filter-insert_by-dropped}
use Rattle.mailbox_model.specs.Lists.{Bytes, last_of}
use Rattle.mailbox_model.specs.Mailbox.{Mailbox}
use Rattle.mailbox_model.specs.Present.{Mail, mail_cmp, present, present_cards, contents}
use Rattle.mailbox_model.specs.Turns.{with_mail}
use Rattle.mailbox_model.specs.Rows.{acting, acts_on, naming, is_expired, row}
use Rattle.mailbox_model.specs.Contacts.{all_cards, gives_name, contact_name}
use Rattle.mailbox_model.specs.Frames.{Stays}
use Rattle.mailbox_model.proofs.ActLaws.{naming_enough}
use Rattle.mailbox_model.proofs.FrameLaws.{row_alike}
use Rattle.touched_chats.specs.Suspects.{is_near}
use Rattle.touched_chats.proofs.Lists.{filter_both, filter-map}
use Rattle.touched_chats.proofs.Moving.{Unmoved}
use Rattle.touched_chats.proofs.Near.{is_content_mail, is_in, far_apart, far_unnamed, mails_stay, each_in}

abbrev pub with_maybe : Option Mail → List Mail → List Mail
with_maybe None ts = ts
with_maybe (Some t) ts = with_mail t ts

without_maybe : (p : Mail → Bool) (o : Option Mail) (ts : List Mail) → IfSome o (λ t. p t ≡ false) → filter p (with_maybe o ts) ≡ filter p ts
without_maybe p None ts h = refl
without_maybe p (Some t) ts h = filter-insert_by-dropped mail_cmp p t ts h

pub each_of : {P Q : Mail → Type 0} → ((t : Mail) → P t → Q t) → (o : Option Mail) → IfSome o P → IfSome o Q
each_of f None h = tt
each_of f (Some t) h = f t h

-- the cards that name an id, as the mails whose card does
named_cards : (id : Bytes) (ts : List Mail) → naming id (map (λ t. t.placed) ts) ≡ map (λ t. t.placed) (filter (λ t. is_among (names t.placed.card) id) ts)
named_cards id ts = filter-map (λ e. is_among (names e.card) id) (λ t. t.placed) ts

-- the cards that give the name of an address, as the mails whose card does
naming_cards : (addr : Bytes) (m : Mailbox) → filter (gives_name addr) (all_cards m) ≡ map (λ p. p.card) (map (λ t. t.placed) (filter (λ t. gives_name addr t.placed.card) (present m)))
naming_cards addr m =
    filter-map (gives_name addr) (λ p. p.card) (present_cards m)
    ∙ ap (map (λ p. p.card)) (filter-map (λ p. gives_name addr p.card) (λ t. t.placed) (present m))

module _ (m n : Mailbox) (a b : Option Mail) (others : List Mail) (before : present m ≡ with_maybe a others) (after : present n ≡ with_maybe b others) where
  pub same_passing : (p : Mail → Bool) → IfSome a (λ t. p t ≡ false) → IfSome b (λ t. p t ≡ false) → filter p (present m) ≡ filter p (present n)
  same_passing p f g =
      ap (filter p) before ∙ without_maybe p a others f ∙ sym (ap (filter p) after ∙ without_maybe p b others g)

  pub beside_name : (addr : Bytes) → IfSome a (λ t. gives_name addr t.placed.card ≡ false) → IfSome b (λ t. gives_name addr t.placed.card ≡ false)
      → contact_name m addr ≡ contact_name n addr
  beside_name addr f g =
      ap (λ cards. unwrap_or (option_map (λ card. card.from_name) (last_of cards)) addr)
      (naming_cards addr m
      ∙ ap (λ ts. map (λ p. p.card) (map (λ t. t.placed) ts)) (same_passing (λ t. gives_name addr t.placed.card) f g)
      ∙ sym (naming_cards addr n))

  -- who acts on a card that neither names
  pub beside_acting : m.me ≡ n.me → (card : Card) → IfSome a (λ x. is_among (names x.placed.card) card.id ≡ false)
      → IfSome b (λ x. is_among (names x.placed.card) card.id ≡ false) → acting m card ≡ acting n card
  beside_acting me card f g =
      sym (naming_enough m.me card (present_cards m)) ∙ (λ i. acts_on (me i) card (named i)) ∙ naming_enough n.me card (present_cards n)
    where
      named : naming card.id (present_cards m) ≡ naming card.id (present_cards n)
      named =
          named_cards card.id (present m)
          ∙ ap (map (λ t. t.placed)) (same_passing (λ x. is_among (names x.placed.card) card.id) f g)
          ∙ sym (named_cards card.id (present n))

  module _ (key : ChatKey) (me : m.me ≡ n.me) (clock : m.now ≡ n.now) (unmoved : Unmoved m n key)
      (far : IfSome a (λ t. is_near m key t ≡ false)) (near : IfSome b (λ t. is_near m key t ≡ false)) where
    same_mails : filter (is_in m key) (contents m) ≡ filter (is_in m key) (contents n)
    same_mails =
        filter_both (is_in m key) is_content_mail (present m)
        ∙ same_passing (λ t. is_content_mail t && is_in m key t) (each_of apart a far) (each_of apart b near)
        ∙ sym (filter_both (is_in m key) is_content_mail (present n))
      where
        apart : (t : Mail) → is_near m key t ≡ false → (is_content_mail t && is_in m key t) ≡ false
        apart t h = and_right (is_content_mail t) (is_in m key t) (far_apart m key t h)

    same_acting : (t : Mail) → is_in m key t ≡ true → acting m t.placed.card ≡ acting n t.placed.card
    same_acting t there = beside_acting me t.placed.card (each_of unnamed a far) (each_of unnamed b near)
      where
        unnamed : (x : Mail) → is_near m key x ≡ false → is_among (names x.placed.card) t.placed.card.id ≡ false
        unnamed x h = far_unnamed m key x h t there

    pub beside_stays : Stays m n key
    beside_stays = record {
      me = me;
      mails = mails_stay m n key unmoved same_mails;
      rows = each_in (λ t. row m t ≡ row n t) m key (λ t there. row_alike m n me t (record { acts = same_acting t there; expired = λ _ i. is_expired (me i) (clock i) t }));
    }
