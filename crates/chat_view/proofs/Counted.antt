-- The number of fresh cards where one comes, goes or is marked anew.
use Rattle.std.proofs.Common.{◌≡◌, refl, ap, ◌∙◌, ℕ, zero, suc, ◌+◌, ◌-◌, ◌<◌, ◌≤◌, Bool, true, false, cond, Option, List, [], ◌∷◌, length, arith}
use Rattle.std.specs.Prelude.{if◌then◌else◌, slice_get, slice_set}
use Rattle.std.specs.List.{remove}
use Rattle.std.specs.Option.{option_and_then, option_flatten, option_map_or}
use Rattle.std.proofs.lemmas.List.Sums.{count_by-le-length, sum_by-cons}
use Rattle.card_type.specs.declared.spot.Spot.{Spot}
use Rattle.mailbox_model.specs.declared.row.Mark.{Mark}
use Rattle.mailbox_model.specs.Rows.{is_new}
use Rattle.chat_view.specs.declared.state.ChatState.{ChatState}
use Rattle.chat_view.specs.Changes.{IsCounted, count_new, last_shown, marked_at, with_last, without_at}

abbrev fresh : Option Mark → Bool
fresh m = option_map_or is_new m false

abbrev bit : Bool → ℕ
bit b = cond b 1 0

abbrev one : Option Mark → ℕ
one m = bit (fresh m)

first : (m : Option Mark) (ms : List (Option Mark)) → count_new (m ∷ ms) ≡ one m + count_new ms
first m ms = sum_by-cons one m ms

few : (ms : List (Option Mark)) → count_new ms ≤ length ms
few ms = count_by-le-length fresh ms

-- with one less: where none is there, none was counted
count_removed : (ms : List (Option Mark)) (i : ℕ) → count_new ms ≡ one (option_flatten (slice_get ms i)) + count_new (remove ms i)
count_removed [] zero = refl
count_removed [] (suc i) = refl
count_removed (n ∷ ms) zero = first n ms
count_removed (n ∷ ms) (suc i) = omega (arith, first n ms, first n (remove ms i), count_removed ms i)

-- with another one in its place
count_set : (ms : List (Option Mark)) (i : ℕ) (m : Option Mark) → i < length ms → count_new (slice_set ms i m) ≡ one m + count_new (remove ms i)
count_set [] i m within = absurd (omega (arith, within))
count_set (n ∷ ms) zero m within = first m ms
count_set (n ∷ ms) (suc i) m within = omega (arith, first n (slice_set ms i m), first n (remove ms i), count_set ms i m (omega (arith, within)))

length_removed : (ms : List (Option Mark)) (i : ℕ) → i < length ms → length ms ≡ suc (length (remove ms i))
length_removed [] i within = absurd (omega (arith, within))
length_removed (n ∷ ms) zero within = refl
length_removed (n ∷ ms) (suc i) within = ap suc (length_removed ms i (omega (arith, within)))

module _ (s : ChatState) (i : ℕ) (is : IsCounted s) where
  abbrev there : Option Mark
  there = option_flatten (slice_get s.marks i)

  without : (m : Option Mark) (n : ℕ) → m ≡ there → n ≡ (if fresh m then s.fresh - 1 else s.fresh) → n ≡ count_new (remove s.marks i)
  without m n at told = told ∙ by (fresh m) refl
    where
      by : (b : Bool) → fresh m ≡ b → (if b then s.fresh - 1 else s.fresh) ≡ count_new (remove s.marks i)
      by true new = omega (arith, is, count_removed s.marks i, ap one at, ap bit new)
      by false new = omega (arith, is, count_removed s.marks i, ap one at, ap bit new)

  pub removed : (m : Option Mark) (spots : List Spot) (marks : List (Option Mark)) (n : ℕ) → m ≡ there → spots ≡ remove s.spots i → marks ≡ remove s.marks i
      → n ≡ (if fresh m then s.fresh - 1 else s.fresh) → with_last (record s { spots = spots; marks = marks; fresh = n }) ≡ without_at i s
  removed m spots marks n at spots_is marks_is told =
      let fresh_is = without m n at told in
      λ k. record {
        key = s.key;
        spots = spots_is k;
        marks = marks_is k;
        roster = s.roster;
        setters = s.setters;
        last = option_and_then (slice_get (spots_is k)) (last_shown (marks_is k));
        fresh = fresh_is k;
      }

  pub marked : (m other : Option Mark) (marks : List (Option Mark)) (n less : ℕ) → i < length s.marks → length s.marks < 4294967296 → other ≡ there
      → marks ≡ slice_set s.marks i m → less ≡ (if fresh other then s.fresh - 1 else s.fresh) → (less < 4294967295 → n ≡ (if fresh m then suc less else less))
      → with_last (record s { marks = marks; fresh = n }) ≡ marked_at i m s
  marked m other marks n less within short at marks_is told_less told =
      let less_is = without other less at told_less in
      let small : less < 4294967295 = omega (arith, short, less_is, few (remove s.marks i), length_removed s.marks i within) in
      let fresh_is : n ≡ count_new (slice_set s.marks i m) = told small ∙ by (fresh m) refl less_is in
      λ k. record {
        key = s.key;
        spots = s.spots;
        marks = marks_is k;
        roster = s.roster;
        setters = s.setters;
        last = option_and_then (slice_get s.spots) (last_shown (marks_is k));
        fresh = fresh_is k;
      }
    where
      by : (b : Bool) → fresh m ≡ b → less ≡ count_new (remove s.marks i) → (if b then suc less else less) ≡ count_new (slice_set s.marks i m)
      by true new is = omega (arith, is, count_set s.marks i m within, ap bit new)
      by false new is = omega (arith, is, count_set s.marks i m within, ap bit new)
