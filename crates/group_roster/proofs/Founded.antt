-- The roster of all cards of a group or a thread, and of one more or one less.
use Rattle.std.proofs.Common.{◌≡◌, refl, sym, ap, ◌∙◌, subst, ◌<◌, Bool, true, false, not, Some, None, List, [], ◌∷◌, ◌++◌, length}
use Rattle.std.specs.Prelude.{if◌then◌else◌, fold, ◌&&◌, ◌||◌}
use Rattle.std.specs.List.{AllByRecursion, IsDistinct, list_all, list_any}
use Rattle.std.specs.Str.{bytes_eq}
use Rattle.std.specs.Ordering.{is_lt}
use Rattle.std.proofs.lemmas.Bool.{and_parts, false≢true, not-true}
use Rattle.lists.proofs.DistinctLaws.{IsDistinct-firsts}
use Rattle.card_type.specs.declared.key.ChatKey.{ChatKey}
use Rattle.card_type.specs.declared.key.ChatKey.TheVariants.{SelfChat, Single, Group, Thread}
use Rattle.card_type.specs.declared.spot.Spot.{Spot}
use Rattle.card_type.specs.Effects.{is_among}
use Rattle.card_type.specs.Spots.{spot_cmp, spot_eq}
use Rattle.mailbox_model.specs.declared.roster.Roster.{Roster}
use Rattle.mailbox_model.specs.Chats.{people}
use Rattle.mailbox_model.specs.Lists.{Bytes}
use Rattle.mailbox_model.specs.Rosters.{roster_after, roster_begun, roster_of}
use Rattle.group_roster.specs.declared.listings.Listing.{Listing}
use Rattle.group_roster.specs.declared.setters.Setters.{Setters}
use Rattle.group_roster.specs.Setters.{At, AreInOrder, RestsOn, is_after, is_before, is_kept, is_of_member, joined_before, keeps_members, keeps_name, keeps_timer, leaves_members, newcomers, place_of, setters_begun, setters_from, setters_of, setters_put, setters_taken, stays_with, stays_with_in_group, stays_without, stays_without_in_group}
use Rattle.group_roster.proofs.Groups.{group_put, group_taken}
use Rattle.group_roster.proofs.Joins.{all_at, joined_by, joined_length, same_length, still_once}
use Rattle.group_roster.proofs.Listed.{AreListed, listings_by, still_listed}
use Rattle.group_roster.proofs.Says.{cards_of, setter_answers}
use Rattle.group_roster.proofs.Unchanged.{Stay, first_kept, name_said, name_step, named_step, timed_step, timer_said, timer_step}
use Rattle.group_roster.proofs.Places.{Above, Below, are_above, are_below, later_not, mid, never_before, not_itself, roster_append, setters_append, stay_roster, stay_setters, thread_with, thread_without}
use Rattle.group_roster.proofs.Plain.{Same, plain_with, plain_without}
use Rattle.group_roster.proofs.Seams.{all_both}

module _ (me : Bytes) (key : ChatKey) (founded : (a : At) → (setters_begun key a).first ≡ Some a.spot) where
  -- no card is after the first one that goes before all others
  not_first_with : (a : At) (after : List At) → Above a.spot after → is_after a.spot (setters_of me key after).first ≡ false
  not_first_with a [] above = refl
  not_first_with a (e ∷ more) above =
      ap (is_after a.spot) (first_kept key (roster_begun me key e.card) (setters_begun key e) more ∙ founded e) ∙ later_not a.spot e.spot above.0

  -- nor is the first one itself
  not_first_without : (a : At) (after : List At) → is_after a.spot (setters_of me key (a ∷ after)).first ≡ false
  not_first_without a after =
      ap (is_after a.spot) (first_kept key (roster_begun me key a.card) (setters_begun key a) after ∙ founded a) ∙ not_itself a.spot

not_first : (later rest : Bool) → later ≡ false → (later && rest) ≡ true → ⊥
not_first later rest e h = false≢true (sym (ap (λ b. b && rest) e) ∙ h)

-- the roster and the setters after the first card and some others
abbrev so_far : Bytes → ChatKey → At → List At → Roster
so_far me key d before = mid key (roster_begun me key d.card) before

abbrev setters_so_far : Bytes → ChatKey → At → List At → Setters
setters_so_far me key d before = setters_from key (roster_begun me key d.card) (setters_begun key d) before

module _ (me : Bytes) (key : ChatKey) (d : At) (before : List At) (a : At) where
  timed : (setters_begun key d).timed ≡ (if d.card.chat then Some d.spot else None) → Below a.spot (d ∷ before)
      → is_before a.spot (setters_so_far me key d before).timed ≡ false
  timed e below =
      setter_answers key timer_said (λ r. r.timer) (λ s. s.timed) (timer_step key) (timed_step key) (is_before a.spot) false
      (roster_begun me key d.card) (setters_begun key d) before (never_before a.spot before below.1) (ap (is_before a.spot) e ∙ first_timed d.card.chat)
    where
      first_timed : (b : Bool) → is_before a.spot (if b then Some d.spot else None) ≡ false
      first_timed true = later_not d.spot a.spot below.0
      first_timed false = refl

  all_same : (after : List At) → Stay key (so_far me key d before) (setters_so_far me key d before) a after → Same me key (d ∷ before) a after
  all_same after stay = (
    stay_roster key (roster_begun me key d.card) (setters_begun key d) before a after stay,
    stay_setters key (roster_begun me key d.card) (setters_begun key d) before a after stay,
  )

-- ---- a group

-- the roster is the same with the card as without it, and the setters follow
abbrev pub GroupPut : Bytes → Bytes → List At → At → List At → Type 0
GroupPut me g before a after =
    (roster_of me (Group g) (cards_of (before ++ a ∷ after)) ≡ roster_of me (Group g) (cards_of (before ++ after)))
    × (setters_of me (Group g) (before ++ a ∷ after) ≡ setters_put (Group g) (setters_of me (Group g) (before ++ after)) a)

abbrev pub GroupTaken : Bytes → Bytes → List At → At → List At → Type 0
GroupTaken me g before a after =
    (roster_of me (Group g) (cards_of (before ++ a ∷ after)) ≡ roster_of me (Group g) (cards_of (before ++ after)))
    × (setters_of me (Group g) (before ++ after) ≡ setters_taken (Group g) (setters_of me (Group g) (before ++ a ∷ after)) a.spot)

abbrev may_enter_group : Setters → At → Bool
may_enter_group s a =
    not (is_of_member s a) || (keeps_members s (place_of s.listings a.spot) a.card && keeps_name s a && keeps_timer s a)

module _ (me g : Bytes) (d : At) (before : List At) (a : At) (after : List At) (order : AreInOrder (d ∷ before ++ a ∷ after)) where
  abbrev key : ChatKey
  key = Group g

  abbrev here : Roster
  here = so_far me key d before

  abbrev setters_here : Setters
  setters_here = setters_so_far me key d before

  below : Below a.spot (d ∷ before)
  below = are_below (d ∷ before) a after order

  above : Above a.spot after
  above = are_above (d ∷ before) a after order

  listings_below : AllByRecursion (λ (l : Listing). is_lt (spot_cmp l.spot a.spot) ≡ true) setters_here.listings
  listings_below = listings_by g (λ spot. is_lt (spot_cmp spot a.spot) ≡ true) (roster_begun me key d.card) (setters_begun key d) before (below.0, tt) below.1

  are_listed : AreListed here setters_here
  are_listed = still_listed g (roster_begun me key d.card) (setters_begun key d) before refl

  named : is_before a.spot setters_here.named ≡ false
  named =
      setter_answers key name_said (λ r. r.name) (λ s. s.named) (name_step g) (named_step g) (is_before a.spot) false
      (roster_begun me key d.card) (setters_begun key d) before (never_before a.spot before below.1) refl

  rosters : fold (roster_after key) here (cards_of (a ∷ after)) ≡ fold (roster_after key) here (cards_of after)
      → roster_of me key (cards_of (d ∷ before ++ a ∷ after)) ≡ roster_of me key (cards_of (d ∷ before ++ after))
  rosters same = roster_append key (roster_begun me key d.card) before (a ∷ after) ∙ same ∙ sym (roster_append key (roster_begun me key d.card) before after)

  setters_with : setters_of me key (d ∷ before ++ a ∷ after) ≡ setters_from key here setters_here (a ∷ after)
  setters_with = setters_append key (roster_begun me key d.card) (setters_begun key d) before (a ∷ after)

  setters_without : setters_of me key (d ∷ before ++ after) ≡ setters_from key here setters_here after
  setters_without = setters_append key (roster_begun me key d.card) (setters_begun key d) before after

  group_enters : may_enter_group (setters_of me key (d ∷ before ++ after)) a ≡ true → GroupPut me g (d ∷ before) a after
  group_enters h =
      let put = group_put g here setters_here a after listings_below are_listed named (timed me key d before a refl below) above
      (ap (λ s. may_enter_group s a) (sym setters_without) ∙ h) in
      (rosters put.0, setters_with ∙ put.1 ∙ ap (λ s. setters_put key s a) (sym setters_without))

  group_leaves : leaves_members (setters_of me key (d ∷ before ++ a ∷ after)) (place_of (setters_of me key (d ∷ before ++ a ∷ after)).listings a.spot) a.spot ≡ true
      → is_kept a.spot (setters_of me key (d ∷ before ++ a ∷ after)).named ≡ false
      → is_kept a.spot (setters_of me key (d ∷ before ++ a ∷ after)).timed ≡ false → GroupTaken me g (d ∷ before) a after
  group_leaves members name timer =
      let taken = group_taken g here setters_here a after listings_below are_listed named (timed me key d before a refl below) above
      (ap (λ (s : Setters). is_kept a.spot s.named) (sym setters_with) ∙ name) (ap (λ (s : Setters). is_kept a.spot s.timed) (sym setters_with) ∙ timer)
      (ap (λ (s : Setters). leaves_members s (place_of s.listings a.spot) a.spot) (sym setters_with) ∙ members) in
      (rosters taken.0, setters_without ∙ taken.1 ∙ ap (λ s. setters_taken key s a.spot) (sym setters_with))

pub all_group_with : (me g : Bytes) (before : List At) (a : At) (after : List At) → AreInOrder (before ++ a ∷ after)
    → stays_with_in_group (setters_of me (Group g) (before ++ after)) a ≡ true → GroupPut me g before a after
all_group_with me g [] a after order h =
    absurd (not_first (is_after a.spot (setters_of me (Group g) after).first) (may_enter_group (setters_of me (Group g) after) a)
    (not_first_with me (Group g) (λ a. refl) a after (are_above [] a after order)) h)
all_group_with me g (d ∷ before) a after order h =
    let s = setters_of me (Group g) (d ∷ before ++ after) in
    group_enters me g d before a after order (and_parts (is_after a.spot s.first) (may_enter_group s a) h).1

pub all_group_without : (me g : Bytes) (before : List At) (a : At) (after : List At) → AreInOrder (before ++ a ∷ after)
    → stays_without_in_group (setters_of me (Group g) (before ++ a ∷ after)) a.spot ≡ true → GroupTaken me g before a after
all_group_without me g [] a after order h =
    let s = setters_of me (Group g) (a ∷ after) in
    let leaves = leaves_members s (place_of s.listings a.spot) a.spot in
    let parts = and_parts (is_after a.spot s.first && leaves && not (is_kept a.spot s.named)) (not (is_kept a.spot s.timed)) h in
    let some = and_parts (is_after a.spot s.first && leaves) (not (is_kept a.spot s.named)) parts.0 in
    absurd (not_first (is_after a.spot s.first) leaves (not_first_without me (Group g) (λ a. refl) a after) some.0)
all_group_without me g (d ∷ before) a after order h =
    let s = setters_of me (Group g) (d ∷ before ++ a ∷ after) in
    let leaves = leaves_members s (place_of s.listings a.spot) a.spot in
    let parts = and_parts (is_after a.spot s.first && leaves && not (is_kept a.spot s.named)) (not (is_kept a.spot s.timed)) h in
    let some = and_parts (is_after a.spot s.first && leaves) (not (is_kept a.spot s.named)) parts.0 in
    let members = and_parts (is_after a.spot s.first) leaves some.0 in
    group_leaves me g d before a after order members.1 (not-true (is_kept a.spot s.named) some.1) (not-true (is_kept a.spot s.timed) parts.1)

-- ---- a thread

abbrev may_enter_thread : Roster → Setters → At → Bool
may_enter_thread r s a = list_all (is_among (joined_before r s a.spot)) (people a.card)

module _ (me i : Bytes) (d : At) (before : List At) (a : At) (after : List At) (order : AreInOrder (d ∷ before ++ a ∷ after)) where
  abbrev thread : ChatKey
  thread = Thread i

  below_thread : Below a.spot (d ∷ before)
  below_thread = are_below (d ∷ before) a after order

  first_once : IsDistinct bytes_eq (roster_begun me thread d.card).members
  first_once = IsDistinct-firsts bytes_eq (people d.card)

  once : IsDistinct bytes_eq (so_far me thread d before).members
  once = still_once i (roster_begun me thread d.card) before first_once

  each_joined : length (setters_so_far me thread d before).joined ≡ length (so_far me thread d before).members
  each_joined =
      joined_length i (roster_begun me thread d.card) (setters_begun thread d) before first_once
      (same_length i [] [] d (IsDistinct-firsts bytes_eq []) refl)

  joined_below : AllByRecursion (λ j. is_lt (spot_cmp j a.spot) ≡ true) (setters_so_far me thread d before).joined
  joined_below =
      let P : Spot → Type 0 = λ j. is_lt (spot_cmp j a.spot) ≡ true in
      let first = setters_begun thread d in
      let rest = joined_by i P (roster_begun me thread d.card) first before below_thread.1 in
      subst (AllByRecursion P) (sym rest.1) (all_both P first.joined rest.0 (all_at i P d.spot (newcomers [] d.card) below_thread.0) rest.2)

  thread_enters : may_enter_thread (roster_of me thread (cards_of (d ∷ before ++ after))) (setters_of me thread (d ∷ before ++ after)) a ≡ true
      → keeps_timer (setters_of me thread (d ∷ before ++ after)) a ≡ true → Same me thread (d ∷ before) a after
  thread_enters known timer =
      let rosters = roster_append thread (roster_begun me thread d.card) before after in
      let setters = setters_append thread (roster_begun me thread d.card) (setters_begun thread d) before after in
      all_same me thread d before a after
      (thread_with i (so_far me thread d before) (setters_so_far me thread d before) a after once each_joined joined_below
      (timed me thread d before a refl below_thread) (are_above (d ∷ before) a after order)
      (sym (λ k. may_enter_thread (rosters k) (setters k) a) ∙ known) (ap (λ s. keeps_timer s a) (sym setters) ∙ timer))

  thread_leaves : list_any (spot_eq a.spot) (setters_of me thread (d ∷ before ++ a ∷ after)).joined ≡ false
      → is_kept a.spot (setters_of me thread (d ∷ before ++ a ∷ after)).timed ≡ false → Same me thread (d ∷ before) a after
  thread_leaves none timer =
      let setters = setters_append thread (roster_begun me thread d.card) (setters_begun thread d) before (a ∷ after) in
      all_same me thread d before a after
      (thread_without i (so_far me thread d before) (setters_so_far me thread d before) a after once
      (ap (λ (s : Setters). list_any (spot_eq a.spot) s.joined) (sym setters) ∙ none) (ap (λ (s : Setters). is_kept a.spot s.timed) (sym setters) ∙ timer))

pub all_thread_with : (me i : Bytes) (before : List At) (a : At) (after : List At) → AreInOrder (before ++ a ∷ after)
    → stays_with (Thread i) (roster_of me (Thread i) (cards_of (before ++ after))) (setters_of me (Thread i) (before ++ after)) a ≡ true → Same me (Thread i) before a after
all_thread_with me i [] a after order h =
    let s = setters_of me (Thread i) after in
    let known = may_enter_thread (roster_of me (Thread i) (cards_of after)) s a in
    let parts = and_parts (is_after a.spot s.first && known) (keeps_timer s a) h in
    absurd (not_first (is_after a.spot s.first) known (not_first_with me (Thread i) (λ a. refl) a after (are_above [] a after order)) parts.0)
all_thread_with me i (d ∷ before) a after order h =
    let s = setters_of me (Thread i) (d ∷ before ++ after) in
    let known = may_enter_thread (roster_of me (Thread i) (cards_of (d ∷ before ++ after))) s a in
    let parts = and_parts (is_after a.spot s.first && known) (keeps_timer s a) h in
    thread_enters me i d before a after order (and_parts (is_after a.spot s.first) known parts.0).1 parts.1

pub all_thread_without : (me i : Bytes) (before : List At) (a : At) (after : List At) → AreInOrder (before ++ a ∷ after)
    → stays_without (Thread i) (setters_of me (Thread i) (before ++ a ∷ after)) a.spot ≡ true → Same me (Thread i) before a after
all_thread_without me i [] a after order h =
    let s = setters_of me (Thread i) (a ∷ after) in
    let none = not (list_any (spot_eq a.spot) s.joined) in
    let parts = and_parts (is_after a.spot s.first && none) (not (is_kept a.spot s.timed)) h in
    absurd (not_first (is_after a.spot s.first) none (not_first_without me (Thread i) (λ a. refl) a after) parts.0)
all_thread_without me i (d ∷ before) a after order h =
    let s = setters_of me (Thread i) (d ∷ before ++ a ∷ after) in
    let none = not (list_any (spot_eq a.spot) s.joined) in
    let parts = and_parts (is_after a.spot s.first && none) (not (is_kept a.spot s.timed)) h in
    let joined = and_parts (is_after a.spot s.first) none parts.0 in
    thread_leaves me i d before a after order (not-true (list_any (spot_eq a.spot) s.joined) joined.1) (not-true (is_kept a.spot s.timed) parts.1)

-- ---- any chat

pub same_with : (me : Bytes) (key : ChatKey) (before : List At) (a : At) (after : List At) → AreInOrder (before ++ a ∷ after)
    → stays_with key (roster_of me key (cards_of (before ++ after))) (setters_of me key (before ++ after)) a ≡ true
    → (roster_of me key (cards_of (before ++ a ∷ after)) ≡ roster_of me key (cards_of (before ++ after)))
    × (setters_of me key (before ++ a ∷ after) ≡ setters_put key (setters_of me key (before ++ after)) a)
same_with me SelfChat before a after order h = plain_with me SelfChat (λ a. (refl, refl)) (λ r c. (refl, refl)) (λ r s a. refl) before a after order h
same_with me (Single other) before a after order h =
    plain_with me (Single other) (λ a. (refl, refl)) (λ r c. (refl, refl)) (λ r s a. refl) before a after order h
same_with me (Group g) before a after order h = all_group_with me g before a after order h
same_with me (Thread i) before a after order h = all_thread_with me i before a after order h

turned : {X Y : Type 0} (x y : X) (s t : Y) → (x ≡ y) × (s ≡ t) → (x ≡ y) × (t ≡ s)
turned x y s t e = (e.0, sym e.1)

pub same_without : (me : Bytes) (key : ChatKey) (before : List At) (a : At) (after : List At) → 0 < length (before ++ after) → AreInOrder (before ++ a ∷ after)
    → stays_without key (setters_of me key (before ++ a ∷ after)) a.spot ≡ true
    → (roster_of me key (cards_of (before ++ a ∷ after)) ≡ roster_of me key (cards_of (before ++ after)))
    × (setters_of me key (before ++ after) ≡ setters_taken key (setters_of me key (before ++ a ∷ after)) a.spot)
same_without me SelfChat before a after some order h =
    turned (roster_of me SelfChat (cards_of (before ++ a ∷ after))) (roster_of me SelfChat (cards_of (before ++ after))) (setters_of me SelfChat (before ++ a ∷ after)) (setters_of me SelfChat (before ++ after))
    (plain_without me SelfChat (λ a. (refl, refl)) (λ r c. (refl, refl)) (λ r s a. refl) before a after order some h)
same_without me (Single other) before a after some order h =
    turned (roster_of me (Single other) (cards_of (before ++ a ∷ after))) (roster_of me (Single other) (cards_of (before ++ after)))
    (setters_of me (Single other) (before ++ a ∷ after)) (setters_of me (Single other) (before ++ after))
    (plain_without me (Single other) (λ a. (refl, refl)) (λ r c. (refl, refl)) (λ r s a. refl) before a after order some h)
same_without me (Group g) before a after some order h = all_group_without me g before a after order h
same_without me (Thread i) before a after some order h =
    turned (roster_of me (Thread i) (cards_of (before ++ a ∷ after))) (roster_of me (Thread i) (cards_of (before ++ after))) (setters_of me (Thread i) (before ++ a ∷ after)) (setters_of me (Thread i) (before ++ after))
    (all_thread_without me i before a after order h)

module _ (me : Bytes) (key : ChatKey) (before : List At) (a : At) (after : List At) (r : Roster) (s : Setters) (order : AreInOrder (before ++ a ∷ after)) where
  pub rests_with : RestsOn me key (before ++ after) r s → stays_with key r s a ≡ true → RestsOn me key (before ++ a ∷ after) r (setters_put key s a)
  rests_with rests h =
      let same = same_with me key before a after order (sym (λ k. stays_with key (rests.roster k) (rests.setters k) a) ∙ h) in
      record { roster = rests.roster ∙ sym same.0; setters = ap (λ s. setters_put key s a) rests.setters ∙ sym same.1 }

  pub rests_without : 0 < length (before ++ after) → RestsOn me key (before ++ a ∷ after) r s → stays_without key s a.spot ≡ true
      → RestsOn me key (before ++ after) r (setters_taken key s a.spot)
  rests_without some rests h =
      let same = same_without me key before a after some order (ap (λ s. stays_without key s a.spot) (sym rests.setters) ∙ h) in
      record { roster = rests.roster ∙ same.0; setters = ap (λ s. setters_taken key s a.spot) rests.setters ∙ sym same.1 }
