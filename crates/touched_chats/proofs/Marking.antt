-- A seen mark leaves every chat in which its mail is not, and every name.
use Rattle.std.proofs.Common.{◌≡◌, refl, sym, ap, ◌∙◌, ℕ, Bool, true, false, ◌&&◌, cond, List, [], ◌∷◌, map}
use Rattle.std.specs.Prelude.{if◌then◌else◌, filter}
use Rattle.std.specs.List.{AllByRecursion}
use Rattle.std.proofs.lemmas.Bool.{and_right}
use Rattle.card_type.specs.declared.key.ChatKey.{ChatKey}
use Rattle.card_type.specs.Kinds.{kind_of, is_content}
use Rattle.mailbox_model.specs.declared.links.Cites.{Cites}
use Rattle.mailbox_model.specs.Lists.{Bytes}
use Rattle.mailbox_model.specs.Mailbox.{Mailbox, marked_at}
use Rattle.mailbox_model.specs.Present.{Placed, Mail, spot, present, present_cards, contents}
use Rattle.mailbox_model.specs.Turns.{is_mail, mark_mail}
use Rattle.mailbox_model.specs.Chats.{cites, cites_by, chat_among, is_chat, chat}
use Rattle.mailbox_model.specs.Rows.{acts_on, is_expired, row}
use Rattle.mailbox_model.specs.Contacts.{contact_name, name_among}
use Rattle.mailbox_model.specs.Frames.{Stays}
use Rattle.mailbox_model.proofs.FrameLaws.{row_alike}
use Rattle.touched_chats.proofs.Lists.{filter_both}
use Rattle.touched_chats.proofs.Near.{is_content_mail, is_in, mails_stay, each_in}

-- the cites of mails follow from their cards
cites_of_cards : (me : Bytes) (ts : List Mail)
    → map (λ t. cites_by me (spot t.placed) t.placed.card) (filter is_content_mail ts)
    ≡ map (λ (p : Placed). cites_by me (spot p) p.card) (filter (λ (p : Placed). is_content (kind_of p.card)) (map (λ t. t.placed) ts))
cites_of_cards me [] = refl
cites_of_cards me (t ∷ ts) = by (is_content (kind_of t.placed.card)) (cites_of_cards me ts)
  where
    by : (b : Bool) → map (λ t. cites_by me (spot t.placed) t.placed.card) (filter is_content_mail ts)
        ≡ map (λ (p : Placed). cites_by me (spot p) p.card) (filter (λ (p : Placed). is_content (kind_of p.card)) (map (λ t. t.placed) ts))
        → map (λ t. cites_by me (spot t.placed) t.placed.card) (cond b (t ∷ filter is_content_mail ts) (filter is_content_mail ts))
        ≡ map (λ (p : Placed). cites_by me (spot p) p.card) (cond b (t.placed ∷ filter (λ (p : Placed). is_content (kind_of p.card)) (map (λ t. t.placed) ts)) (filter (λ (p : Placed). is_content (kind_of p.card)) (map (λ t. t.placed) ts)))
    by true rest = ap (λ (us : List Cites). cites_by me (spot t.placed) t.placed.card ∷ us) rest
    by false rest = rest

module _ (uid now : ℕ) where
  abbrev mark : Mail → Mail
  mark = mark_mail uid now

  pub same_card : (t : Mail) → (mark t).placed ≡ t.placed
  same_card t = elim (is_mail uid t) as (λ b. (if b then record t { seen = marked_at now t.seen } else t).placed ≡ t.placed) [ true ↦ refl | false ↦ refl ]

  same_cards : (ts : List Mail) → map (λ t. t.placed) (map mark ts) ≡ map (λ t. t.placed) ts
  same_cards [] = refl
  same_cards (t ∷ ts) = λ i. same_card t i ∷ same_cards ts i

  pub filter_marked : (p : Mail → Bool) → ((t : Mail) → p (mark t) ≡ p t) → (ts : List Mail)
      → AllByRecursion (λ t. is_mail uid t ≡ true → p t ≡ false) ts → filter p (map mark ts) ≡ filter p ts
  filter_marked p h [] a = refl
  filter_marked p h (t ∷ ts) a = by (is_mail uid t) refl (filter_marked p h ts a.1)
    where
      by : (b : Bool) → is_mail uid t ≡ b → filter p (map mark ts) ≡ filter p ts
          → cond (p (mark t)) (mark t ∷ filter p (map mark ts)) (filter p (map mark ts)) ≡ cond (p t) (t ∷ filter p ts) (filter p ts)
      by true e rest = rw (h t) (rw (a.0 e) rest)
      by false e rest = let same : mark t ≡ t = rw e refl in λ i. cond (p (same i)) (same i ∷ rest i) (rest i)

  module _ (m n : Mailbox) (after : present n ≡ map mark (present m)) where
    pub cards : present_cards m ≡ present_cards n
    cards = sym (ap (map (λ t. t.placed)) after ∙ same_cards (present m))

    pub marked_name : (addr : Bytes) → contact_name m addr ≡ contact_name n addr
    marked_name addr = ap (λ ps. name_among (map (λ p. p.card) ps) addr) cards

    same_cites : m.me ≡ n.me → cites m ≡ cites n
    same_cites me =
        cites_of_cards m.me (present m)
        ∙ (λ i. map (λ (p : Placed). cites_by (me i) (spot p) p.card) (filter (λ (p : Placed). is_content (kind_of p.card)) (cards i)))
        ∙ sym (cites_of_cards n.me (present n))

    module _ (key : ChatKey) (me : m.me ≡ n.me) (clock : m.now ≡ n.now) (apart : AllByRecursion (λ t. is_mail uid t ≡ true → is_in m key t ≡ false) (present m)) where
      same_mails : filter (is_in m key) (contents m) ≡ filter (is_in m key) (contents n)
      same_mails =
          filter_both (is_in m key) is_content_mail (present m)
          ∙ sym (ap (filter p) after ∙ filter_marked p (λ t i. is_content (kind_of (same_card t i).card) && is_chat key (chat m (same_card t i).card.id)) (present m) (fails (present m) apart))
          ∙ sym (filter_both (is_in m key) is_content_mail (present n))
        where
          p : Mail → Bool
          p t = is_content_mail t && is_in m key t

          fails : (ts : List Mail) → AllByRecursion (λ t. is_mail uid t ≡ true → is_in m key t ≡ false) ts
              → AllByRecursion (λ t. is_mail uid t ≡ true → p t ≡ false) ts
          fails [] a = tt
          fails (t ∷ ts) a = (λ e. and_right (is_content_mail t) (is_in m key t) (a.0 e), fails ts a.1)

      pub marked_stays : Stays m n key
      marked_stays = record {
        me = me;
        mails = mails_stay m n key (λ id i. is_chat key (chat_among (same_cites me i) id)) same_mails;
        rows = each_in (λ t. row m t ≡ row n t) m key (λ t there. row_alike m n me t (record { acts = λ i. acts_on (me i) t.placed.card (cards i); expired = λ _ i. is_expired (me i) (clock i) t }));
      }
