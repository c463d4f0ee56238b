-- Edits of the values that stand after some fillers.
use Rattle.std.proofs.Common.{◌≡◌, ◌<◌, ◌≤◌, ◌+◌, refl, sym, ap, ap₂, ◌∙◌, ℕ, zero, suc, List, [], ◌∷◌, ◌++◌, length, take, drop, get_or, slice_set, length-drop, length-set, arith}
use Rattle.std.specs.List.{insert, remove}
use Rattle.std.proofs.lemmas.List.{get_or-drop}
use Rattle.std.proofs.lemmas.List.Edits.{length-remove}
use Rattle.chatlist.proofs.Turns.{set_read, whole}

module _ {X : Type 0} where
  pub insert_after : (s i n : ℕ) (xs : List X) (x : X) → n ≡ s + i → s ≤ length xs → drop s (insert xs n x) ≡ insert (drop s xs) i x
  insert_after zero i n xs x is within = let same : n ≡ i = omega arith in ap (λ k. insert xs k x) same
  insert_after (suc s) i zero xs x is within = absurd (omega arith)
  insert_after (suc s) i (suc n) [] x is within = absurd (omega arith)
  insert_after (suc s) i (suc n) (y ∷ xs) x is within = insert_after s i n xs x (omega arith) (omega arith)

  pub remove_after : (s i n : ℕ) (xs : List X) → n ≡ s + i → s ≤ length xs → drop s (remove xs n) ≡ remove (drop s xs) i
  remove_after zero i n xs is within = let same : n ≡ i = omega arith in ap (remove xs) same
  remove_after (suc s) i zero xs is within = absurd (omega arith)
  remove_after (suc s) i (suc n) [] is within = absurd (omega arith)
  remove_after (suc s) i (suc n) (y ∷ xs) is within = remove_after s i n xs (omega arith) (omega arith)

  pub set_after : (s i n : ℕ) (xs : List X) (x : X) → n ≡ s + i → s ≤ length xs → drop s (slice_set xs n x) ≡ slice_set (drop s xs) i x
  set_after zero i n xs x is within = let same : n ≡ i = omega arith in ap (λ k. slice_set xs k x) same
  set_after (suc s) i zero xs x is within = absurd (omega arith)
  set_after (suc s) i (suc n) [] x is within = absurd (omega arith)
  set_after (suc s) i (suc n) (y ∷ xs) x is within = set_after s i n xs x (omega arith) (omega arith)

  -- a value moves among those after the fillers
  pub turned_after : (s n from to : ℕ) (xs ys : List X) (d : X) → ys ≡ insert (remove xs (s + from)) (s + to) (get_or xs (s + from) d)
      → s ≤ length xs → from < length (drop s xs) → to < length (drop s xs) → n ≡ length xs
      → drop s (take n (ys ++ drop (length ys) xs)) ≡ insert (remove (drop s xs) from) to (get_or (drop s xs) from d)
  turned_after s n from to xs ys d is within here there all =
      let left = length-drop s xs in
      let fewer = length-remove xs (s + from) (omega arith) in
      ap (drop s) (whole n xs ys (s + from) (s + to) (get_or xs (s + from) d) is (omega arith) (omega arith) all ∙ is)
      ∙ insert_after s to (s + to) (remove xs (s + from)) (get_or xs (s + from) d) refl (omega arith)
      ∙ ap₂ (λ us v. insert us to v) (remove_after s from (s + from) xs refl within) (sym (get_or-drop s xs from d))

  -- a value takes the place of the last filler
  last_filler : (s : ℕ) (xs : List X) (x : X) → s < length xs → drop s (remove (slice_set xs s x) s) ≡ drop (suc s) xs
  last_filler s [] x within = absurd (omega arith)
  last_filler zero (y ∷ xs) x within = refl
  last_filler (suc s) (y ∷ xs) x within = last_filler s xs x (omega arith)

  -- and moves to its index
  pub put_before : (s n i : ℕ) (xs ys : List X) (x : X)
      → ys ≡ insert (remove (slice_set xs s x) s) (s + i) (get_or (slice_set xs s x) s x) → s < length xs → i ≤ length (drop (suc s) xs) → n ≡ length xs
      → drop s (take n (ys ++ drop (length ys) (slice_set xs s x))) ≡ insert (drop (suc s) xs) i x
  put_before s n i xs ys x is within there all =
      let set = slice_set xs s x in
      let long = length-set xs s x in
      let left = length-drop (suc s) xs in
      let fewer = length-remove set s (omega arith) in
      ap (drop s) (whole n set ys s (s + i) (get_or set s x) is (omega arith) (omega arith) (omega arith) ∙ is)
      ∙ insert_after s i (s + i) (remove set s) (get_or set s x) refl (omega arith)
      ∙ (λ j. insert (last_filler s xs x within j) i (set_read xs s x j))
