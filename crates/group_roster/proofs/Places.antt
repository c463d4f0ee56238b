-- A card that is put in at its place, or taken out there, by what the setters say.
use Rattle.std.proofs.Common.{◌≡◌, refl, sym, ap, ◌∙◌, ◌<◌, Bool, true, false, eqb, inl, inr, Some, List, [], ◌∷◌, ◌++◌, length, map, arith}
use Rattle.std.specs.Prelude.{fold, ◌&&◌, ◌||◌}
use Rattle.std.specs.List.{AllByRecursion, IsDistinct, list_all, list_any}
use Rattle.std.specs.List.Sorted.{IsStrictlySortedBy}
use Rattle.std.specs.Str.{bytes_eq}
use Rattle.std.specs.Cmp.Lexicographic.{bytes_decides}
use Rattle.std.specs.declared.cmp.Ordering.TheVariants.{Less}
use Rattle.std.specs.Ordering.{is_lt}
use Rattle.std.proofs.lemmas.Bool.{and_parts, or_parts, cases_Bool, eqb-true, false≢true}
use Rattle.std.proofs.lemmas.List.{map-append}
use Rattle.std.proofs.lemmas.List.Folds.{list_any-append}
use Rattle.std.proofs.lemmas.List.Sums.{fold-append}
use Rattle.lists.proofs.Rising.{never_back}
use Rattle.card_type.specs.declared.key.ChatKey.{ChatKey}
use Rattle.card_type.specs.declared.key.ChatKey.TheVariants.{Thread}
use Rattle.card_type.specs.declared.spot.Spot.{Spot}
use Rattle.card_type.specs.Effects.{is_among}
use Rattle.card_type.specs.Spots.{spot_cmp, spot_eq}
use Rattle.card_type.proofs.Orders.{spots_total}
use Rattle.mailbox_model.specs.declared.roster.Roster.{Roster}
use Rattle.mailbox_model.specs.Chats.{people}
use Rattle.mailbox_model.specs.Lists.{Bytes}
use Rattle.mailbox_model.specs.Rosters.{first_members, roster_after, roster_begun, roster_of}
use Rattle.group_roster.specs.declared.setters.Setters.{Setters}
use Rattle.group_roster.specs.Setters.{At, AreInOrder, is_before, is_kept, joined_at, joined_before, keeps_timer, no_setters, setters_after, setters_begun, setters_from, setters_of}
use Rattle.group_roster.proofs.Joins.{joined_before_are, joined_by, no_newcomers, none_new}
use Rattle.group_roster.proofs.Says.{cards_of, setter_answers}
use Rattle.group_roster.proofs.Unchanged.{Stay, thread_stays, timed_step, timer_said, timer_step, timer_with, timer_without}

-- ---- spots before and after one

pub later_not : (x y : Spot) → is_lt (spot_cmp x y) ≡ true → is_lt (spot_cmp y x) ≡ false
later_not x y h = never_back spot_cmp spots_total x y h

pub not_itself : (x : Spot) → is_lt (spot_cmp x x) ≡ false
not_itself x = elim (cases_Bool (is_lt (spot_cmp x x))) [ inl h ↦ later_not x x h | inr h ↦ h ]

abbrev pub Below : Spot → List At → Type 0
Below spot cards = AllByRecursion (λ a. is_lt (spot_cmp a.spot spot) ≡ true) cards

abbrev pub Above : Spot → List At → Type 0
Above spot cards = AllByRecursion (λ a. is_lt (spot_cmp spot a.spot) ≡ true) cards

pub never_before : (spot : Spot) (cards : List At) → Below spot cards → AllByRecursion (λ a. is_before spot (Some a.spot) ≡ false) cards
never_before spot [] h = tt
never_before spot (a ∷ more) h = (later_not a.spot spot h.0, never_before spot more h.1)

pub never_past : (spot : Spot) (cards : List At) → Above spot cards → AllByRecursion (λ a. is_lt (spot_cmp a.spot spot) ≡ false) cards
never_past spot [] h = tt
never_past spot (a ∷ more) h = (later_not spot a.spot h.0, never_past spot more h.1)

-- a spot is not one that is after it
pub is_not_same : (x y : Spot) → is_lt (spot_cmp x y) ≡ true → spot_eq x y ≡ false
is_not_same x y h = elim (cases_Bool (spot_eq x y)) [
  | inl same ↦
      let parts = and_parts (eqb x.date y.date) (bytes_eq x.id y.id && eqb x.uid y.uid) same in
      let others = and_parts (bytes_eq x.id y.id) (eqb x.uid y.uid) parts.1 in
      let is : y ≡ x = λ k. record {
        date = sym (eqb-true x.date y.date parts.0) k;
        id = sym ((bytes_decides x.id y.id).0 others.0) k;
        uid = sym (eqb-true x.uid y.uid others.1) k;
      } in
      absurd (false≢true (sym (not_itself x) ∙ ap (λ z. is_lt (spot_cmp x z)) (sym is) ∙ h))
  | inr other ↦ other
]

middle : (x : Spot) (before : List At) (a : At) (after : List At) → AllByRecursion (λ y. spot_cmp x y ≡ Less) (map (λ c. c.spot) (before ++ a ∷ after))
    → is_lt (spot_cmp x a.spot) ≡ true
middle x [] a after h = ap is_lt h.0
middle x (b ∷ before) a after h = middle x before a after h.1

all_above : (x : Spot) (cards : List At) → AllByRecursion (λ y. spot_cmp x y ≡ Less) (map (λ c. c.spot) cards) → Above x cards
all_above x [] h = tt
all_above x (a ∷ more) h = (ap is_lt h.0, all_above x more h.1)

pub are_below : (before : List At) (a : At) (after : List At) → AreInOrder (before ++ a ∷ after) → Below a.spot before
unfolding IsStrictlySortedBy
are_below [] a after s = tt
are_below (b ∷ before) a after s = (middle b.spot before a after s.0, are_below before a after s.1)

pub are_above : (before : List At) (a : At) (after : List At) → AreInOrder (before ++ a ∷ after) → Above a.spot after
unfolding IsStrictlySortedBy
are_above [] a after s = all_above a.spot after s.0
are_above (b ∷ before) a after s = are_above before a after s.1

pub rest_true : (b c : Bool) → b ≡ false → (b || c) ≡ true → c ≡ true
rest_true b c e h = ap (λ x. x || c) (sym e) ∙ h

-- ---- further cards of a thread

no_condition : (cards : List At) → AllByRecursion (λ _. Unit {0}) cards
no_condition [] = tt
no_condition (a ∷ more) = (tt, no_condition more)

module _ (i : Bytes) (r : Roster) (s : Setters) (a : At) (after : List At) (once : IsDistinct bytes_eq r.members) where
  pub thread_with : length s.joined ≡ length r.members → AllByRecursion (λ j. is_lt (spot_cmp j a.spot) ≡ true) s.joined
      → is_before a.spot s.timed ≡ false → Above a.spot after
      → list_all (is_among (joined_before (fold (roster_after (Thread i)) r (cards_of after)) (setters_from (Thread i) r s after) a.spot)) (people a.card) ≡ true
      → keeps_timer (setters_from (Thread i) r s after) a ≡ true → Stay (Thread i) r s a after
  thread_with len below timed above known timer =
      let before = joined_before_are i a.spot r s after once len below (never_past a.spot after above) in
      let same = none_new r.members once a.card (ap (λ ms. list_all (is_among ms) (people a.card)) (sym before) ∙ known) in
      thread_stays i r s a after same (timer_with (Thread i) r s a after same timer timed)

  pub thread_without : list_any (spot_eq a.spot) (setters_from (Thread i) r s (a ∷ after)).joined ≡ false
      → is_kept a.spot (setters_from (Thread i) r s (a ∷ after)).timed ≡ false → Stay (Thread i) r s a after
  thread_without none timer =
      let here = joined_at r.members a in
      let all = joined_by i (λ _. Unit {0}) (roster_after (Thread i) r a.card) (setters_after (Thread i) r s a) after (no_condition after) in
      let none_of_all : list_any (spot_eq a.spot) ((s.joined ++ here) ++ all.0) ≡ false = ap (list_any (spot_eq a.spot)) (sym all.1) ∙ none in
      let first = or_parts (list_any (spot_eq a.spot) (s.joined ++ here)) (list_any (spot_eq a.spot) all.0) (sym (list_any-append (spot_eq a.spot) (s.joined ++ here) all.0) ∙ none_of_all) in
      let own = or_parts (list_any (spot_eq a.spot) s.joined) (list_any (spot_eq a.spot) here) (sym (list_any-append (spot_eq a.spot) s.joined here) ∙ first.0) in
      let same = no_newcomers r.members once a.card a.spot own.1 in
      thread_stays i r s a after same (timer_without (Thread i) r s a after same timer)

-- ---- the cards of a chat, as some further cards after others

pub setters_append : (key : ChatKey) (r : Roster) (s : Setters) (xs ys : List At)
    → setters_from key r s (xs ++ ys) ≡ setters_from key (fold (roster_after key) r (cards_of xs)) (setters_from key r s xs) ys
setters_append key r s [] ys = refl
setters_append key r s (x ∷ xs) ys = setters_append key (roster_after key r x.card) (setters_after key r s x) xs ys

pub roster_append : (key : ChatKey) (r : Roster) (xs ys : List At)
    → fold (roster_after key) r (cards_of (xs ++ ys)) ≡ fold (roster_after key) (fold (roster_after key) r (cards_of xs)) (cards_of ys)
roster_append key r xs ys =
    ap (fold (roster_after key) r) (map-append (λ a. a.card) xs ys) ∙ fold-append (roster_after key) r (cards_of xs) (cards_of ys)

-- the roster before a card
abbrev pub mid : ChatKey → Roster → List At → Roster
mid key q before = fold (roster_after key) q (cards_of before)

-- the same after all cards, with one card more or less at its place
module _ (key : ChatKey) (q : Roster) (t : Setters) (before : List At) (a : At) (after : List At)
    (stay : Stay key (mid key q before) (setters_from key q t before) a after) where
  pub stay_roster : fold (roster_after key) q (cards_of (before ++ a ∷ after)) ≡ fold (roster_after key) q (cards_of (before ++ after))
  stay_roster = roster_append key q before (a ∷ after) ∙ stay.roster ∙ sym (roster_append key q before after)

  pub stay_setters : setters_from key q t (before ++ a ∷ after) ≡ setters_from key q t (before ++ after)
  stay_setters = setters_append key q t before (a ∷ after) ∙ stay.setters ∙ sym (setters_append key q t before after)

-- ---- all cards of a chat with one other, or with oneself: as further cards of a chat that has begun

abbrev pub begun : Bytes → ChatKey → Roster
begun me key = record { begun = true; members = first_members me key; name = []; timer = 0 }

-- a chat goes by its first card as by any other
abbrev pub IsPlain : Bytes → ChatKey → Type 0
IsPlain me key = (a : At) → (roster_after key (begun me key) a.card ≡ roster_begun me key a.card) × (setters_after key (begun me key) no_setters a ≡ setters_begun key a)

module _ (me : Bytes) (key : ChatKey) (plain : IsPlain me key) where
  plain_roster : (cards : List At) → 0 < length cards → roster_of me key (cards_of cards) ≡ fold (roster_after key) (begun me key) (cards_of cards)
  plain_roster [] h = absurd (omega (arith, h))
  plain_roster (a ∷ more) h = ap (λ r. fold (roster_after key) r (cards_of more)) (sym (plain a).0)

  pub plain_setters : (cards : List At) → setters_of me key cards ≡ setters_from key (begun me key) no_setters cards
  plain_setters [] = refl
  plain_setters (a ∷ more) = λ k. setters_from key (sym (plain a).0 k) (sym (plain a).1 k) more

  some_after : (before : List At) (a : At) (after : List At) → 0 < length (before ++ a ∷ after)
  some_after [] a after = omega arith
  some_after (b ∷ before) a after = omega arith

  -- a roster that has begun is that of some card
  pub some_begun : (cards : List At) → (roster_of me key (cards_of cards)).begun ≡ true → 0 < length cards
  some_begun [] h = absurd (false≢true h)
  some_begun (a ∷ more) h = omega arith

  module _ (before : List At) (a : At) (after : List At) (some : 0 < length (before ++ after))
      (stay : Stay key (mid key (begun me key) before) (setters_from key (begun me key) no_setters before) a after) where
    pub plain_same_roster : roster_of me key (cards_of (before ++ a ∷ after)) ≡ roster_of me key (cards_of (before ++ after))
    plain_same_roster =
        plain_roster (before ++ a ∷ after) (some_after before a after) ∙ stay_roster key (begun me key) no_setters before a after stay
        ∙ sym (plain_roster (before ++ after) some)

    pub plain_same_setters : setters_of me key (before ++ a ∷ after) ≡ setters_of me key (before ++ after)
    plain_same_setters =
        plain_setters (before ++ a ∷ after) ∙ stay_setters key (begun me key) no_setters before a after stay ∙ sym (plain_setters (before ++ after))

  pub plain_timed : (before : List At) (a : At) → Below a.spot before → is_before a.spot (setters_from key (begun me key) no_setters before).timed ≡ false
  plain_timed before a below =
      setter_answers key timer_said (λ r. r.timer) (λ s. s.timed) (timer_step key) (timed_step key) (is_before a.spot) false (begun me key) no_setters before
      (never_before a.spot before below) refl
