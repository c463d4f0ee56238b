-- A value of a list that moves to another index, while only the values between the two move with it.
use Rattle.std.proofs.Common.{◌≡◌, ◌<◌, ◌≤◌, ◌+◌, ◌-◌, refl, ap, ap₂, ◌∙◌, ℕ, zero, suc, List, [], ◌∷◌, ◌++◌, length, take, drop, get_or, slice_set, append_assoc, length-take, take_at, arith}
use Rattle.std.specs.List.{AllByRecursion, insert, remove}
use Rattle.std.proofs.lemmas.List.Edits.{length-insert, length-remove}
use borrow.Rule.Slice.PartMut.{mid_of, put_mid}

module _ {X : Type 0} where
  -- ---- a range is turned by one

  pub turned_left : (from k : ℕ) (xs ys : List X) (to : ℕ) (d : X) → from < to → to < length xs → from + k ≡ suc to
      → ys ≡ drop 1 (mid_of from k xs) ++ take 1 (mid_of from k xs) → put_mid from k xs ys ≡ insert (remove xs from) to (get_or xs from d)
  turned_left from k [] ys to d below within all is = absurd (omega arith)
  turned_left zero k (x ∷ xs) ys to d below within all is =
      let count : k ≡ suc to = omega arith in
      let turned : ys ≡ take to xs ++ x ∷ [] = is ∙ ap (λ n. drop 1 (take n (x ∷ xs)) ++ take 1 (take n (x ∷ xs))) count in
      ap₂ (λ us n. us ++ drop n (x ∷ xs)) turned count ∙ append_assoc (take to xs) (x ∷ []) (drop to xs)
  turned_left (suc from) k (x ∷ xs) ys zero d below within all is = absurd (omega arith)
  turned_left (suc from) k (x ∷ xs) ys (suc to) d below within all is =
      ap (λ us. x ∷ us) (turned_left from k xs ys to d (omega arith) (omega arith) (omega arith) is)

  -- the first values but for the last of them, and the last of them
  cut : (xs : List X) (i : ℕ) (d : X) → i < length xs → (take i (take (suc i) xs) ≡ take i xs) × (drop i (take (suc i) xs) ≡ get_or xs i d ∷ [])
  cut [] i d within = absurd (omega arith)
  cut (x ∷ xs) zero d within = (refl, refl)
  cut (x ∷ xs) (suc i) d within = let rest = cut xs i d (omega arith) in (ap (λ us. x ∷ us) rest.0, rest.1)

  pub turned_right : (to k : ℕ) (xs ys : List X) (from : ℕ) (d : X) → to ≤ from → from < length xs → to + k ≡ suc from
      → ys ≡ drop (length (mid_of to k xs) - 1) (mid_of to k xs) ++ take (length (mid_of to k xs) - 1) (mid_of to k xs)
      → put_mid to k xs ys ≡ insert (remove xs from) to (get_or xs from d)
  turned_right to k [] ys from d below within all is = absurd (omega arith)
  turned_right zero k (x ∷ xs) ys from d below within all is =
      let count : k ≡ suc from = omega arith in
      let long = length-take k (x ∷ xs) in
      let last : length (take k (x ∷ xs)) - 1 ≡ from = omega arith in
      let parts = cut (x ∷ xs) from d within in
      let turned : ys ≡ get_or (x ∷ xs) from d ∷ take from (x ∷ xs) =
      is ∙ ap₂ (λ n m. drop n (take m (x ∷ xs)) ++ take n (take m (x ∷ xs))) last count ∙ ap₂ (λ us vs. us ++ vs) parts.1 parts.0 in
      ap₂ (λ us n. us ++ drop n (x ∷ xs)) turned count
  turned_right (suc to) k (x ∷ xs) ys zero d below within all is = absurd (omega arith)
  turned_right (suc to) k (x ∷ xs) ys (suc from) d below within all is =
      ap (λ us. x ∷ us) (turned_right to k xs ys from d (omega arith) (omega arith) (omega arith) is)

  -- what is written back to a vector of n values
  pub whole : (n : ℕ) (xs ys : List X) (from to : ℕ) (x : X) → ys ≡ insert (remove xs from) to x → from < length xs → to < length xs → n ≡ length xs
      → take n (ys ++ drop (length ys) xs) ≡ ys
  whole n xs ys from to x is here there all =
      let left = length-remove xs from here in
      let back = length-insert (remove xs from) to x (omega arith) in
      let same = ap length is in
      take_at ys _ n (omega arith)

  -- ---- a value is set, and then moves

  pub set_read : (xs : List X) (i : ℕ) (x : X) → get_or (slice_set xs i x) i x ≡ x
  set_read [] i x = refl
  set_read (y ∷ xs) zero x = refl
  set_read (y ∷ xs) (suc i) x = set_read xs i x

  pub set_gone : (xs : List X) (i : ℕ) (x : X) → remove (slice_set xs i x) i ≡ remove xs i
  set_gone [] i x = refl
  set_gone (y ∷ xs) zero x = refl
  set_gone (y ∷ xs) (suc i) x = ap (λ us. y ∷ us) (set_gone xs i x)

-- ---- a place in the list without one value

module _ {X : Type 0} (P Q : X → Type 0) where
  All_left : (xs : List X) (i : ℕ) → i < length xs → AllByRecursion Q xs → AllByRecursion Q (remove xs i)
  All_left [] i within all = absurd (omega arith)
  All_left (x ∷ xs) zero within all = all.1
  All_left (x ∷ xs) (suc i) within all = (all.0, All_left xs i (omega arith) all.1)

  -- where the value does not stand before the place
  pub place_before : (xs : List X) (i place : ℕ) → i < length xs → place ≤ i → AllByRecursion P (take place xs) → AllByRecursion Q (drop place xs)
      → AllByRecursion P (take place (remove xs i)) × AllByRecursion Q (drop place (remove xs i))
  place_before [] i place within le before after = absurd (omega arith)
  place_before (x ∷ xs) i zero within le before after = (tt, All_left (x ∷ xs) i within after)
  place_before (x ∷ xs) zero (suc place) within le before after = absurd (omega arith)
  place_before (x ∷ xs) (suc i) (suc place) within le before after =
      let rest = place_before xs i place (omega arith) (omega arith) before.1 after in ((before.0, rest.0), rest.1)

  -- where it does
  pub place_after : (xs : List X) (i place : ℕ) → i < length xs → i ≤ place → AllByRecursion P (take (suc place) xs) → AllByRecursion Q (drop (suc place) xs)
      → AllByRecursion P (take place (remove xs i)) × AllByRecursion Q (drop place (remove xs i))
  place_after [] i place within le before after = absurd (omega arith)
  place_after (x ∷ xs) zero place within le before after = (before.1, after)
  place_after (x ∷ xs) (suc i) zero within le before after = absurd (omega arith)
  place_after (x ∷ xs) (suc i) (suc place) within le before after =
      let rest = place_after xs i place (omega arith) (omega arith) before.1 after in ((before.0, rest.0), rest.1)
