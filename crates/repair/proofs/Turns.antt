-- One of the present mails and the others, and what a turn says of them.
use Rattle.std.proofs.Common.{◌≡◌, refl, sym, ap, ◌∙◌, subst, ℕ, ◌<◌, ◌-◌, ◌^◌, Bool, true, false, cond, Some, List, [], ◌∷◌, map, arith}
use Rattle.std.specs.Prelude.{filter, if◌then◌else◌, sum_by}
use Rattle.std.specs.List.{AllByRecursion, IsDistinct}
use Rattle.std.specs.List.Sorted.{IsStrictlySortedBy}
use Rattle.std.specs.Ordering.{is_lt}
use Rattle.std.specs.declared.cmp.Ordering.{Ordering}
use Rattle.lists.specs.Sorted.{insert_by}
use Rattle.card_type.specs.declared.card.Card.{Card}
use Rattle.card_type.specs.declared.spot.Spot.{Spot}
use Rattle.card_type.specs.Kinds.{kind_of, is_content}
use Rattle.mailbox_model.specs.declared.change.Change.{Change}
use Rattle.mailbox_model.specs.declared.change.Change.TheVariants.{Arrive, ArriveFault, Expunge, Seen, At}
use Rattle.mailbox_model.specs.declared.links.Cites.{Cites}
use Rattle.mailbox_model.specs.declared.turn.Turn.{Turn}
use Rattle.mailbox_model.specs.Chats.{cites_by, is_id_among}
use Rattle.mailbox_model.specs.Lists.{Bytes}
use Rattle.mailbox_model.specs.Mailbox.{Mailbox, IsMailbox, after, card_at, marked_at}
use Rattle.mailbox_model.specs.Present.{Mail, Placed, mail_at, mail_cmp, same_id, spot, present}
use Rattle.mailbox_model.specs.Turns.{is_mail, mark_mail, with_mail, IsTurn}
use Rattle.mailbox_model.proofs.OneMail.{cards_of}
use Rattle.mailbox_model.proofs.PeopleLaws.{few_mentions}
use Rattle.mailbox_model.proofs.PresentLaws.{present_sorted, present_once}
use Rattle.mailbox_model.proofs.TurnLaws.{turn_law}
use Rattle.mailbox_model.proofs.UidLaws.{present_own}
use Rattle.contacts.specs.Kept.{times_in, StandsFor as AreContacts}
use Rattle.effects.specs.Named.{StandsFor as AreEffects}
use Rattle.thread_links.specs.Linked.{cites_among}
use Rattle.thread_links.proofs.MailLaws.{cites_absent, cites_there}
use Rattle.indexes.specs.declared.indexes.Indexes.{Indexes}
use Rattle.indexes.specs.Kept.{AreCounted, AreOf}
use Rattle.indexes.specs.Views.{IsComing}
use Rattle.indexes.proofs.Mails.{card_is}
use Rattle.repair.specs.Reindexed.{IsOneOf}

of_inserted : {X : Type 0} (cmp : X → X → Ordering) (P : X → Type 0) (x : X) (ys : List X) → AllByRecursion P (insert_by cmp x ys) → P x
of_inserted cmp P x [] a = a.0
of_inserted cmp P x (y ∷ ys) a =
    elim (is_lt (cmp x y)) as (λ b. AllByRecursion P (if b then x ∷ y ∷ ys else y ∷ insert_by cmp x ys) → P x) [
      | true ↦ λ b. b.0
      | false ↦ λ b. of_inserted cmp P x ys b.1
    ] a

module _ (m : Mailbox) (rules : IsMailbox m) (at : Spot) (t : Mail) (others : List Mail) (one : IsOneOf at t others (present m)) where
  pub in_order : IsStrictlySortedBy mail_cmp (with_mail t others)
  in_order = subst (IsStrictlySortedBy mail_cmp) one.all (present_sorted m rules.uids)

  pub once : IsDistinct same_id (with_mail t others)
  once = subst (IsDistinct same_id) one.all (present_once m)

  pub are_counted : AreCounted (with_mail t others)
  are_counted addr = subst (λ ts. sum_by (λ (p : Placed). times_in p.card addr) (cards_of ts) < 2 ^ 64 - 1) one.all (omega (arith, few_mentions m addr rules))

  pub its_card : card_at m at.uid ≡ Some t.placed.card
  its_card =
      card_is m at.uid t
      (subst (λ s. mail_at m s.uid ≡ Some t) one.place
      (of_inserted mail_cmp (λ u. mail_at m u.placed.uid ≡ Some u) t others
      (subst (AllByRecursion (λ u. mail_at m u.placed.uid ≡ Some u)) one.all (present_own m rules.uids))))

  module _ (me : Bytes) (kept : List Cites) where
    pub is_absent : kept ≡ cites_among me others → is_id_among kept at.id ≡ false
    is_absent are =
        ap (λ ts. is_id_among ts at.id) are ∙ ap (λ s. is_id_among (cites_among me others) s.id) (sym one.place) ∙ cites_absent me t others once

    pub is_there : (card : Card) → t.placed.card ≡ card → is_content (kind_of card) ≡ true → kept ≡ cites_among me (present m) → is_id_among kept at.id ≡ true
    is_there card same content are =
        ap (λ ts. is_id_among ts at.id) (are ∙ ap (cites_among me) one.all) ∙ ap (λ s. is_id_among (cites_among me (with_mail t others)) s.id) (sym one.place)
        ∙ cites_there me t others in_order once ∙ ap (λ c. is_content (kind_of c)) same ∙ content

-- ---- a mark

-- the cites follow from the cards alone
cites_in : Bytes → List Placed → List Cites
cites_in me ps = map (λ p. cites_by me (spot p) p.card) (filter (λ p. is_content (kind_of p.card)) ps)

cites_of_cards : (me : Bytes) (ts : List Mail) → cites_among me ts ≡ cites_in me (cards_of ts)
unfolding cites_in
cites_of_cards me [] = refl
cites_of_cards me (t ∷ ts) =
    elim (is_content (kind_of t.placed.card)) as (λ b. map (λ u. cites_by me (spot u.placed) u.placed.card) (cond b (t ∷ filter (λ u. is_content (kind_of u.placed.card)) ts) (filter (λ u. is_content (kind_of u.placed.card)) ts))
    ≡ map (λ p. cites_by me (spot p) p.card) (cond b (t.placed ∷ filter (λ p. is_content (kind_of p.card)) (cards_of ts)) (filter (λ p. is_content (kind_of p.card)) (cards_of ts)))) [
      | true ↦ ap (λ cs. cites_by me (spot t.placed) t.placed.card ∷ cs) (cites_of_cards me ts)
      | false ↦ cites_of_cards me ts
    ]

module _ (uid now : ℕ) where
  same_placed : (t : Mail) → (mark_mail uid now t).placed ≡ t.placed
  same_placed t = by (is_mail uid t)
    where
      by : (b : Bool) → (if b then record t { seen = marked_at now t.seen } else t).placed ≡ t.placed
      by true = refl
      by false = refl

  same_cards : (ts : List Mail) → cards_of (map (mark_mail uid now) ts) ≡ cards_of ts
  same_cards [] = refl
  same_cards (t ∷ ts) = λ i. same_placed t i ∷ same_cards ts i

  -- what is of some mails is of them where one is marked
  are_marked : (me : Bytes) (ts : List Mail) (x : Indexes) → AreOf me ts x → AreOf me (map (mark_mail uid now) ts) x
  are_marked me ts x are = record {
    whole = are.whole;
    links = are.links ∙ cites_of_cards me ts ∙ sym (ap (cites_in me) (same_cards ts)) ∙ sym (cites_of_cards me (map (mark_mail uid now) ts));
    effects = subst (AreEffects x.effects) (sym (same_cards ts)) are.effects;
    contacts = subst (AreContacts x.contacts) (sym (same_cards ts)) are.contacts;
  }

-- ---- a turn that moves no card

module _ (m n : Mailbox) (own : m.me ≡ n.me) (x : Indexes) (are : AreOf m.me (present m) x) where
  pub all_stay : present n ≡ present m → AreOf n.me (present n) x
  all_stay same = subst (λ ts. AreOf n.me ts x) (sym same) (subst (λ me. AreOf me (present m) x) own are)

  pub one_marked : (uid now : ℕ) → present n ≡ map (mark_mail uid now) (present m) → AreOf n.me (present n) x
  one_marked uid now same =
      subst (λ ts. AreOf n.me ts x) (sym same) (are_marked uid now n.me (present m) x (subst (λ me. AreOf me (present m) x) own are))

-- ---- a change that is to come makes its turn

pub coming_turn : (m : Mailbox) (change : Change) (turns : Turn) → IsComing m change turns → IsTurn m (after m change) turns
coming_turn m change turns is = subst (IsTurn m (after m change)) (sym is.turn) (turn_law m change is.rules.uids)

pub coming_me : (m : Mailbox) (change : Change) → m.me ≡ (after m change).me
coming_me m (Arrive card) = refl
coming_me m (ArriveFault fault) = refl
coming_me m (Expunge uid) = refl
coming_me m (Seen uid) = refl
coming_me m (At moment) = refl
