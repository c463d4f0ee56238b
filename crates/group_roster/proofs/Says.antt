-- What each card of a chat says of the name of a group, of its members or of the timer.
use Rattle.std.proofs.Common.{◌≡◌, refl, sym, ap, ◌∙◌, Bool, true, false, ◌⊎◌, inl, inr, Option, Some, None, is_some, List, [], ◌∷◌, ◌++◌, map}
use Rattle.std.specs.Prelude.{if◌then◌else◌, unwrap_or, fold}
use Rattle.std.specs.List.{AllByRecursion}
use Rattle.lists.specs.Distinct.{each_once}
use Rattle.card_type.specs.declared.card.Card.{Card}
use Rattle.card_type.specs.declared.key.ChatKey.{ChatKey}
use Rattle.card_type.specs.declared.key.ChatKey.TheVariants.{SelfChat, Single, Group, Thread}
use Rattle.card_type.specs.declared.spot.Spot.{Spot}
use Rattle.card_type.specs.Effects.{is_among}
use Rattle.mailbox_model.specs.declared.roster.Roster.{Roster}
use Rattle.mailbox_model.specs.Chats.{people}
use Rattle.mailbox_model.specs.Lists.{Bytes}
use Rattle.mailbox_model.specs.Rosters.{changes_members, group_after, group_after_member, listed, roster_after}
use Rattle.group_roster.specs.declared.setters.Setters.{Setters}
use Rattle.group_roster.specs.Setters.{At, setters_after, setters_from, is_before, is_kept}
use Rattle.group_roster.proofs.Slots.{value_after, spot_after, all_answer, one_more, one_less}

abbrev pub cards_of : List At → List Card
cards_of cards = map (λ a. a.card) cards

-- ---- who is heard

abbrev pub is_heard : ChatKey → Roster → Card → Bool
is_heard SelfChat r c = true
is_heard (Single other) r c = true
is_heard (Group g) r c = is_among r.members c.from
is_heard (Thread i) r c = true

abbrev group_members : List Bytes → Card → List Bytes
group_members members c = if is_among members c.from then (if changes_members c then listed c else members) else members

pub group_members_are : (r : Roster) (c : Card) → (group_after r c).members ≡ group_members r.members c
group_members_are r c = elim (is_among r.members c.from) as (λ b. (if b then group_after_member r c else r).members ≡ (if b then (if changes_members c then listed c else r.members) else r.members)) [ true ↦ refl | false ↦ refl ]

-- from the same members on, the members are the same
pub members_alike : (key : ChatKey) (q r : Roster) (c : Card) → q.members ≡ r.members → (roster_after key q c).members ≡ (roster_after key r c).members
members_alike SelfChat q r c e = e
members_alike (Single other) q r c e = e
members_alike (Group g) q r c e = group_members_are q c ∙ ap (λ ms. group_members ms c) e ∙ sym (group_members_are r c)
members_alike (Thread i) q r c e = ap (λ ms. each_once (ms ++ people c)) e

pub all_members_alike : (key : ChatKey) (q r : Roster) (cards : List Card) → q.members ≡ r.members → (fold (roster_after key) q cards).members ≡ (fold (roster_after key) r cards).members
all_members_alike key q r [] e = e
all_members_alike key q r (c ∷ cs) e = all_members_alike key (roster_after key q c) (roster_after key r c) cs (members_alike key q r c e)

-- the same cards are heard: in a group where the members are the same people, in any order
abbrev pub Alike : ChatKey → Roster → Roster → Type 0
Alike SelfChat q r = q.members ≡ r.members
Alike (Single other) q r = q.members ≡ r.members
Alike (Group g) q r = (p : Bytes) → is_among q.members p ≡ is_among r.members p
Alike (Thread i) q r = q.members ≡ r.members

pub alike_if_same : (key : ChatKey) (q r : Roster) → q.members ≡ r.members → Alike key q r
alike_if_same SelfChat q r e = e
alike_if_same (Single other) q r e = e
alike_if_same (Group g) q r e = λ p. ap (λ ms. is_among ms p) e
alike_if_same (Thread i) q r e = e

people_after : (qs rs : List Bytes) (c : Card) → ((p : Bytes) → is_among qs p ≡ is_among rs p) → (p : Bytes)
    → is_among (group_members qs c) p ≡ is_among (group_members rs c) p
people_after qs rs c e p =
    ap (λ b. is_among (if b then (if changes_members c then listed c else qs) else qs) p) (e c.from)
    ∙ elim (is_among rs c.from) as (λ b. is_among (if b then (if changes_members c then listed c else qs) else qs) p ≡ is_among (if b then (if changes_members c then listed c else rs) else rs) p) [
      | true ↦ elim (changes_members c) as (λ b. is_among (if b then listed c else qs) p ≡ is_among (if b then listed c else rs) p) [ true ↦ refl | false ↦ e p ]
      | false ↦ e p
    ]

alike_after : (key : ChatKey) (q r : Roster) (c : Card) → Alike key q r → Alike key (roster_after key q c) (roster_after key r c)
alike_after SelfChat q r c e = e
alike_after (Single other) q r c e = e
alike_after (Group g) q r c e =
    λ p. ap (λ ms. is_among ms p) (group_members_are q c) ∙ people_after q.members r.members c e p ∙ ap (λ ms. is_among ms p) (sym (group_members_are r c))
alike_after (Thread i) q r c e = ap (λ ms. each_once (ms ++ people c)) e

heard_alike : (key : ChatKey) (q r : Roster) (c : Card) → Alike key q r → is_heard key q c ≡ is_heard key r c
heard_alike SelfChat q r c e = refl
heard_alike (Single other) q r c e = refl
heard_alike (Group g) q r c e = e c.from
heard_alike (Thread i) q r c e = refl

-- ---- what is said

module _ {V : Type 0} (key : ChatKey) (said : Card → Option V) where
  abbrev pub heard : Roster → Card → Option V
  heard r c = if is_heard key r c then said c else None

  abbrev pub says : Roster → List At → List (Option V × Spot)
  says r [] = []
  says r (a ∷ more) = (heard r a.card, a.spot) ∷ says (roster_after key r a.card) more

  pub says_alike : (q r : Roster) (cards : List At) → Alike key q r → says q cards ≡ says r cards
  says_alike q r [] e = refl
  says_alike q r (a ∷ more) e =
      let same = heard_alike key q r a.card e in
      let rest = says_alike (roster_after key q a.card) (roster_after key r a.card) more (alike_after key q r a.card e) in
      λ i. ((if same i then said a.card else None), a.spot) ∷ rest i

  pub all_said : (P : Spot → Type 0) (r : Roster) (cards : List At) → AllByRecursion (λ a. P a.spot) cards → AllByRecursion (λ y. P y.1) (says r cards)
  all_said P r [] h = tt
  all_said P r (a ∷ more) h = (h.0, all_said P (roster_after key r a.card) more h.1)

  silent : (r : Roster) (c : Card) → said c ≡ None → heard r c ≡ None
  silent r c e = elim (is_heard key r c) as (λ b. (if b then said c else None) ≡ None) [ true ↦ e | false ↦ refl ]

  -- a value of the roster that is what was said last
  pub value_is : (value : Roster → V) → ((r : Roster) (c : Card) → value (roster_after key r c) ≡ unwrap_or (heard r c) (value r))
      → (r : Roster) (cards : List At) → value (fold (roster_after key) r (cards_of cards)) ≡ value_after (value r) (says r cards)
  value_is value value_step r [] = refl
  value_is value value_step r (a ∷ more) =
      value_is value value_step (roster_after key r a.card) more
      ∙ ap (λ v. value_after v (says (roster_after key r a.card) more)) (value_step r a.card)

  -- and the setter that is where it was said
  module _ (value : Roster → V) (setter : Setters → Option Spot)
      (value_step : (r : Roster) (c : Card) → value (roster_after key r c) ≡ unwrap_or (heard r c) (value r))
      (setter_step : (r : Roster) (s : Setters) (a : At) → setter (setters_after key r s a) ≡ (if is_some (heard r a.card) then Some a.spot else setter s)) where
    setter_is : (r : Roster) (s : Setters) (cards : List At) → setter (setters_from key r s cards) ≡ spot_after (setter s) (says r cards)
    setter_is r s [] = refl
    setter_is r s (a ∷ more) =
        setter_is (roster_after key r a.card) (setters_after key r s a) more
        ∙ ap (λ o. spot_after o (says (roster_after key r a.card) more)) (setter_step r s a)

    -- a test of the setter that all spots answer alike
    pub setter_answers : (p : Option Spot → Bool) (b : Bool) (r : Roster) (s : Setters) (cards : List At)
        → AllByRecursion (λ a. p (Some a.spot) ≡ b) cards → p (setter s) ≡ b → p (setter (setters_from key r s cards)) ≡ b
    setter_answers p b r s cards h k =
        ap p (setter_is r s cards) ∙ all_answer p b (says r cards) (setter s) (all_said (λ spot. p (Some spot) ≡ b) r cards h) k

    module _ (r : Roster) (s : Setters) (a : At) (after : List At) (alike : Alike key (roster_after key r a.card) r) where
      abbrev Stayed : Type 0
      Stayed =
          (value (fold (roster_after key) r (cards_of (a ∷ after))) ≡ value (fold (roster_after key) r (cards_of after)))
          × (setter (setters_from key r s (a ∷ after)) ≡ setter (setters_from key r s after))

      said_with : says r (a ∷ after) ≡ (heard r a.card, a.spot) ∷ says r after
      said_with = ap (λ ys. (heard r a.card, a.spot) ∷ ys) (says_alike (roster_after key r a.card) r after alike)

      stayed : (value_after (value r) ((heard r a.card, a.spot) ∷ says r after) ≡ value_after (value r) (says r after))
          × (spot_after (setter s) ((heard r a.card, a.spot) ∷ says r after) ≡ spot_after (setter s) (says r after)) → Stayed
      stayed is = (
        value_is value value_step r (a ∷ after) ∙ ap (value_after (value r)) said_with ∙ is.0 ∙ sym (value_is value value_step r after),
        setter_is r s (a ∷ after) ∙ ap (spot_after (setter s)) said_with ∙ is.1 ∙ sym (setter_is r s after),
      )

      -- with one card more, which says nothing or before the setter
      pub stayed_with : (said a.card ≡ None) ⊎ (is_before a.spot (setter (setters_from key r s after)) ≡ true) → is_before a.spot (setter s) ≡ false → Stayed
      stayed_with (inl e) h = stayed (one_more a.spot (heard r a.card) (says r after) (value r) (setter s) (inl (silent r a.card e)) h)
      stayed_with (inr k) h =
          stayed (one_more a.spot (heard r a.card) (says r after) (value r) (setter s) (inr (ap (is_before a.spot) (sym (setter_is r s after)) ∙ k)) h)

      -- with one card less, which is not the setter
      pub stayed_without : is_kept a.spot (setter (setters_from key r s (a ∷ after))) ≡ false → Stayed
      stayed_without k =
          stayed (one_less a.spot (heard r a.card) (says r after) (value r) (setter s) (ap (is_kept a.spot) (sym (setter_is r s (a ∷ after) ∙ ap (spot_after (setter s)) said_with)) ∙ k))
