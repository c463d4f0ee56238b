-- When the roster after some cards is the same with one card more at first.
use Rattle.std.proofs.Common.{◌≡◌, refl, sym, ap, ◌∙◌, Bool, true, false, not, ◌⊎◌, inl, inr, Option, Some, None, is_some, List, [], ◌∷◌, ◌++◌, append-nil}
use Rattle.std.specs.Prelude.{if◌then◌else◌, unwrap_or, fold, ℕ, ◌||◌}
use Rattle.card_type.specs.declared.card.Card.{Card}
use Rattle.card_type.specs.declared.key.ChatKey.{ChatKey}
use Rattle.card_type.specs.declared.key.ChatKey.TheVariants.{SelfChat, Single, Group, Thread}
use Rattle.card_type.specs.declared.spot.Spot.{Spot}
use Rattle.card_type.specs.Effects.{is_among}
use Rattle.mailbox_model.specs.declared.roster.Roster.{Roster}
use Rattle.mailbox_model.specs.Lists.{Bytes}
use Rattle.mailbox_model.specs.Rosters.{changes_members, changes_name, group_after_member, listed, roster_after}
use Rattle.group_roster.specs.declared.setters.Setters.{Setters}
use Rattle.group_roster.specs.Setters.{At, is_before, is_kept, joined_at, keeps_timer, setters_after, setters_after_member, setters_from}
use Rattle.group_roster.proofs.Folds.{begun_all}
use Rattle.group_roster.proofs.Joins.{none_joined}
use Rattle.group_roster.proofs.Says.{Alike, alike_if_same, cards_of, is_heard, heard, all_members_alike, stayed_with, stayed_without}

-- ---- what the cards say

abbrev pub timer_said : Card → Option ℕ
timer_said c = if c.chat then Some c.timer else None

abbrev pub name_said : Card → Option Bytes
name_said c = if changes_name c then Some c.group_name else None

abbrev pub members_said : Card → Option (List Bytes)
members_said c = if changes_members c then Some (listed c) else None

-- what counts is the new value or the old one
by_test : {V : Type 0} (test : Bool) (x y : V) → (if test then x else y) ≡ unwrap_or (if test then Some x else None) y
by_test true x y = refl
by_test false x y = refl

spot_by_test : {V : Type 0} (test : Bool) (x : V) (spot : Spot) (o : Option Spot)
    → (if test then Some spot else o) ≡ (if is_some (if test then Some x else None) then Some spot else o)
spot_by_test true x spot o = refl
spot_by_test false x spot o = refl

pub timer_step : (key : ChatKey) (r : Roster) (c : Card) → (roster_after key r c).timer ≡ unwrap_or (heard key timer_said r c) r.timer
timer_step SelfChat r c = by_test c.chat c.timer r.timer
timer_step (Single other) r c = by_test c.chat c.timer r.timer
timer_step (Group g) r c =
    elim (is_among r.members c.from) as (λ b. (if b then group_after_member r c else r).timer ≡ unwrap_or (if b then timer_said c else None) r.timer) [ true ↦ by_test c.chat c.timer r.timer | false ↦ refl ]
timer_step (Thread i) r c = by_test c.chat c.timer r.timer

pub timed_step : (key : ChatKey) (r : Roster) (s : Setters) (a : At)
    → (setters_after key r s a).timed ≡ (if is_some (heard key timer_said r a.card) then Some a.spot else s.timed)
timed_step SelfChat r s a = spot_by_test a.card.chat a.card.timer a.spot s.timed
timed_step (Single other) r s a = spot_by_test a.card.chat a.card.timer a.spot s.timed
timed_step (Group g) r s a =
    elim (is_among r.members a.card.from) as (λ b. (if b then setters_after_member s a else s).timed ≡ (if is_some (if b then timer_said a.card else None) then Some a.spot else s.timed)) [
      | true ↦ spot_by_test a.card.chat a.card.timer a.spot s.timed
      | false ↦ refl
    ]
timed_step (Thread i) r s a = spot_by_test a.card.chat a.card.timer a.spot s.timed

pub name_step : (g : Bytes) (r : Roster) (c : Card) → (roster_after (Group g) r c).name ≡ unwrap_or (heard (Group g) name_said r c) r.name
name_step g r c =
    elim (is_among r.members c.from) as (λ b. (if b then group_after_member r c else r).name ≡ unwrap_or (if b then name_said c else None) r.name) [ true ↦ by_test (changes_name c) c.group_name r.name | false ↦ refl ]

pub named_step : (g : Bytes) (r : Roster) (s : Setters) (a : At)
    → (setters_after (Group g) r s a).named ≡ (if is_some (heard (Group g) name_said r a.card) then Some a.spot else s.named)
named_step g r s a =
    elim (is_among r.members a.card.from) as (λ b. (if b then setters_after_member s a else s).named ≡ (if is_some (if b then name_said a.card else None) then Some a.spot else s.named)) [
      | true ↦ spot_by_test (changes_name a.card) a.card.group_name a.spot s.named
      | false ↦ refl
    ]

pub members_step : (g : Bytes) (r : Roster) (c : Card) → (roster_after (Group g) r c).members ≡ unwrap_or (heard (Group g) members_said r c) r.members
members_step g r c =
    elim (is_among r.members c.from) as (λ b. (if b then group_after_member r c else r).members ≡ unwrap_or (if b then members_said c else None) r.members) [ true ↦ by_test (changes_members c) (listed c) r.members | false ↦ refl ]

-- ---- what no further card changes

kept_setter : {X : Type 0} (key : ChatKey) (f : Setters → X) → ((r : Roster) (s : Setters) (a : At) → f (setters_after key r s a) ≡ f s)
    → (r : Roster) (s : Setters) (cards : List At) → f (setters_from key r s cards) ≡ f s
kept_setter key f step r s [] = refl
kept_setter key f step r s (a ∷ more) = kept_setter key f step (roster_after key r a.card) (setters_after key r s a) more ∙ step r s a

kept_value : {X : Type 0} (key : ChatKey) (f : Roster → X) → ((r : Roster) (c : Card) → f (roster_after key r c) ≡ f r)
    → (r : Roster) (cards : List Card) → f (fold (roster_after key) r cards) ≡ f r
kept_value key f step r [] = refl
kept_value key f step r (c ∷ cs) = kept_value key f step (roster_after key r c) cs ∙ step r c

first_step : (key : ChatKey) (r : Roster) (s : Setters) (a : At) → (setters_after key r s a).first ≡ s.first
first_step SelfChat r s a = refl
first_step (Single other) r s a = refl
first_step (Group g) r s a = elim (is_among r.members a.card.from) as (λ b. (if b then setters_after_member s a else s).first ≡ s.first) [ true ↦ refl | false ↦ refl ]
first_step (Thread i) r s a = refl

pub first_kept : (key : ChatKey) (r : Roster) (s : Setters) (cards : List At) → (setters_from key r s cards).first ≡ s.first
first_kept key r s cards = kept_setter key (λ s. s.first) (first_step key) r s cards

pub group_joined_step : (g : Bytes) (r : Roster) (s : Setters) (a : At) → (setters_after (Group g) r s a).joined ≡ s.joined
group_joined_step g r s a = elim (is_among r.members a.card.from) as (λ b. (if b then setters_after_member s a else s).joined ≡ s.joined) [ true ↦ refl | false ↦ refl ]

joined_alike : (i : Bytes) (q r : Roster) (s t : Setters) (cards : List At) → q.members ≡ r.members → s.joined ≡ t.joined
    → (setters_from (Thread i) q s cards).joined ≡ (setters_from (Thread i) r t cards).joined
joined_alike i q r s t [] e j = j
joined_alike i q r s t (a ∷ more) e j =
    joined_alike i (roster_after (Thread i) q a.card) (roster_after (Thread i) r a.card) (setters_after (Thread i) q s a) (setters_after (Thread i) r t a) more
    (Rattle.group_roster.proofs.Says.members_alike (Thread i) q r a.card e) (λ k. j k ++ joined_at (e k) a)

either : (b c : Bool) → (not b || c) ≡ true → (b ≡ false) ⊎ (c ≡ true)
either true c h = inr h
either false c h = inl refl

-- nothing is said where the test fails, else the other test holds
pub unsaid : {V : Type 0} (test other : Bool) (x : V) → (not test || other) ≡ true → ((if test then Some x else None) ≡ None) ⊎ (other ≡ true)
unsaid true other x h = inr h
unsaid false other x h = inl refl

-- all but the listings
abbrev pub rest_of : Setters → Setters
rest_of s = record s { listings = [] }

-- ---- with one card more

module _ (key : ChatKey) (r : Roster) (s : Setters) (a : At) (after : List At) where
  abbrev pub more : Roster
  more = fold (roster_after key) r (cards_of (a ∷ after))

  abbrev pub less : Roster
  less = fold (roster_after key) r (cards_of after)

  abbrev pub setters_more : Setters
  setters_more = setters_from key r s (a ∷ after)

  abbrev pub setters_less : Setters
  setters_less = setters_from key r s after

  -- the roster and its setters are the same with the card at first
  pub record Stay : Type 0 where
    pub roster : more ≡ less
    pub setters : setters_more ≡ setters_less

  -- but for the listings
  pub record StayElse : Type 0 where
    pub roster : more ≡ less
    pub rest : rest_of setters_more ≡ rest_of setters_less

  pub with_listings : StayElse → setters_more.listings ≡ setters_less.listings → Stay
  with_listings stay listings = record { roster = stay.roster; setters = λ k. record (stay.rest k) { listings = listings k } }

  -- as they are where the card changes neither of them
  unheard : roster_after key r a.card ≡ r → setters_after key r s a ≡ s → Stay
  unheard e f =
      record {
        roster = ap (λ q. fold (roster_after key) q (cards_of after)) e;
        setters = λ k. setters_from key (e k) (f k) after;
      }

  module _ (alike : Alike key (roster_after key r a.card) r) where
    part_by_part : more.members ≡ less.members → more.name ≡ less.name → (more.timer ≡ less.timer) × (setters_more.timed ≡ setters_less.timed)
        → setters_more.named ≡ setters_less.named → setters_more.joined ≡ setters_less.joined → StayElse
    part_by_part members name timer named joined =
        let begun : more.begun ≡ less.begun = begun_all key r (cards_of (a ∷ after)) ∙ sym (begun_all key r (cards_of after)) in
        let first : setters_more.first ≡ setters_less.first = first_kept key r s (a ∷ after) ∙ sym (first_kept key r s after) in
        record {
          roster = λ k. record { begun = begun k; members = members k; name = name k; timer = timer.0 k };
          rest = λ k. record { first = first k; listings = []; named = named k; timed = timer.1 k; joined = joined k };
        }

    abbrev pub SameTimer : Type 0
    SameTimer = (more.timer ≡ less.timer) × (setters_more.timed ≡ setters_less.timed)

    pub timer_with : keeps_timer setters_less a ≡ true → is_before a.spot s.timed ≡ false → SameTimer
    timer_with keeps h =
        stayed_with key timer_said (λ r. r.timer) (λ s. s.timed) (timer_step key) (timed_step key) r s a after alike
        (unsaid a.card.chat (is_before a.spot setters_less.timed) a.card.timer keeps) h

    pub timer_without : is_kept a.spot setters_more.timed ≡ false → SameTimer
    timer_without h = stayed_without key timer_said (λ r. r.timer) (λ s. s.timed) (timer_step key) (timed_step key) r s a after alike h

-- ---- a chat with oneself or with one other

module _ (key : ChatKey) (same : (r : Roster) (c : Card) → ((roster_after key r c).members ≡ r.members) × ((roster_after key r c).name ≡ r.name))
    (kept : (r : Roster) (s : Setters) (a : At) → record (setters_after key r s a) { timed = None } ≡ record s { timed = None }) where
  pub plain_stays : (r : Roster) (s : Setters) (a : At) (after : List At) → SameTimer key r s a after (alike_if_same key (roster_after key r a.card) r (same r a.card).0) → Stay key r s a after
  plain_stays r s a after timer =
      let members = kept_value key (λ r. r.members) (λ r c. (same r c).0) r in
      let name = kept_value key (λ r. r.name) (λ r c. (same r c).1) r in
      let rest = kept_setter key (λ s. record s { timed = None }) kept r s in
      let setters : record (setters_more key r s a after) { timed = None } ≡ record (setters_less key r s a after) { timed = None } = rest (a ∷ after) ∙ sym (rest after) in
      with_listings key r s a after
      (part_by_part key r s a after (alike_if_same key (roster_after key r a.card) r (same r a.card).0)
      (members (cards_of (a ∷ after)) ∙ sym (members (cards_of after))) (name (cards_of (a ∷ after)) ∙ sym (name (cards_of after))) timer
      (ap (λ (s : Setters). s.named) setters) (ap (λ (s : Setters). s.joined) setters))
      (ap (λ (s : Setters). s.listings) setters)

-- ---- a thread

pub thread_stays : (i : Bytes) (r : Roster) (s : Setters) (a : At) (after : List At) (same : (roster_after (Thread i) r a.card).members ≡ r.members)
    → SameTimer (Thread i) r s a after same → Stay (Thread i) r s a after
thread_stays i r s a after same timer =
    let name = kept_value (Thread i) (λ r. r.name) (λ r c. refl) r in
    let listings = kept_setter (Thread i) (λ s. s.listings) (λ r s a. refl) r s in
    let named = kept_setter (Thread i) (λ s. s.named) (λ r s a. refl) r s in
    let joined = ap (λ new. s.joined ++ new) (none_joined r.members a same) ∙ append-nil s.joined in
    with_listings (Thread i) r s a after
    (part_by_part (Thread i) r s a after same (all_members_alike (Thread i) (roster_after (Thread i) r a.card) r (cards_of after) same)
    (name (cards_of (a ∷ after)) ∙ sym (name (cards_of after))) timer (named (a ∷ after) ∙ sym (named after))
    (joined_alike i (roster_after (Thread i) r a.card) r (setters_after (Thread i) r s a) s after same joined))
    (listings (a ∷ after) ∙ sym (listings after))

-- ---- a group

module _ (g : Bytes) (r : Roster) (s : Setters) (a : At) (after : List At) where
  pub stranger_stays : is_among r.members a.card.from ≡ false → Stay (Group g) r s a after
  stranger_stays e =
      unheard (Group g) r s a after (ap (λ b. if b then group_after_member r a.card else r) e) (ap (λ b. if b then setters_after_member s a else s) e)

  pub same_members : changes_members a.card ≡ false → (roster_after (Group g) r a.card).members ≡ r.members
  same_members e =
      elim (is_among r.members a.card.from) as (λ b. (if b then group_after_member r a.card else r).members ≡ r.members) [
        | true ↦ ap (λ b. if b then listed a.card else r.members) e
        | false ↦ refl
      ]

  -- a member's card that says no name that counts, nor timer, and the same people
  pub group_stays : (alike : Alike (Group g) (roster_after (Group g) r a.card) r)
      → (fold (roster_after (Group g)) r (cards_of (a ∷ after))).members ≡ (fold (roster_after (Group g)) r (cards_of after)).members
      → ((fold (roster_after (Group g)) r (cards_of (a ∷ after))).name ≡ (fold (roster_after (Group g)) r (cards_of after)).name)
      × ((setters_from (Group g) r s (a ∷ after)).named ≡ (setters_from (Group g) r s after).named)
      → SameTimer (Group g) r s a after alike → StayElse (Group g) r s a after
  group_stays alike members name timer =
      let joined = kept_setter (Group g) (λ s. s.joined) (group_joined_step g) r s in
      part_by_part (Group g) r s a after alike members name.0 timer name.1 (joined (a ∷ after) ∙ sym (joined after))
