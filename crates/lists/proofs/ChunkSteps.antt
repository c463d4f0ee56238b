-- The steps of a loop over chunks.
use Rattle.std.proofs.Common.{◌≡◌, sym, ap, ◌∙◌, subst, ℕ, ◌+◌, ◌<◌, ◌≤◌, List, [], ◌∷◌, ◌++◌, length, take, drop, get_or, arith}
use Rattle.std.specs.Prelude.{sum_by}
use Rattle.std.specs.List.{AllByRecursion}
use Rattle.std.proofs.lemmas.List.{append-nil, length-append, take-append-drop, take_more}
use Rattle.std.proofs.lemmas.List.Sums.{sum_by-append}
use Rattle.lists.specs.Chunks.{joined}
use Rattle.lists.proofs.Joined.{chunk_at, joined-append}

-- all up to a chunk, and that chunk
pub joined_next : {X : Type 0} (xss : List (List X)) (i : ℕ) → i < length xss → joined (take (i + 1) xss) ≡ joined (take i xss) ++ get_or xss i []
joined_next xss i within =
    ap joined (take_more xss i [] within) ∙ joined-append (take i xss) (get_or xss i [] ∷ [])
    ∙ ap (λ xs. joined (take i xss) ++ xs) (append-nil (get_or xss i []))

All-first : {X : Type 0} (P : X → Type 0) (xs ys : List X) → AllByRecursion P (xs ++ ys) → AllByRecursion P xs
All-first P [] ys all = tt
All-first P (x ∷ xs) ys all = (all.0, All-first P xs ys all.1)

All-rest : {X : Type 0} (P : X → Type 0) (xs ys : List X) → AllByRecursion P (xs ++ ys) → AllByRecursion P ys
All-rest P [] ys all = all
All-rest P (x ∷ xs) ys all = All-rest P xs ys all.1

-- xs is the chunk at an index
module _ {X : Type 0} (xss : List (List X)) (i : ℕ) (xs : List X) (within : i < length xss) (at : xs ≡ get_or xss i xs) where
  pub next : joined (take (i + 1) xss) ≡ joined (take i xss) ++ xs
  next = joined_next xss i within ∙ ap (λ ys. joined (take i xss) ++ ys) (sym (chunk_at xss i xs within at))

  parts : joined xss ≡ (joined (take i xss) ++ xs) ++ joined (drop (i + 1) xss)
  parts =
      ap joined (sym (take-append-drop (i + 1) xss)) ∙ joined-append (take (i + 1) xss) (drop (i + 1) xss)
      ∙ ap (λ ys. ys ++ joined (drop (i + 1) xss)) next

  pub all_of : (P : X → Type 0) → AllByRecursion P (joined xss) → AllByRecursion P xs
  all_of P all =
      All-rest P (joined (take i xss)) xs
      (All-first P (joined (take i xss) ++ xs) (joined (drop (i + 1) xss)) (subst (AllByRecursion P) parts all))

  pub sum_next : (f : X → ℕ) → sum_by f (joined (take (i + 1) xss)) ≡ sum_by f (joined (take i xss)) + sum_by f xs
  sum_next f = ap (sum_by f) next ∙ sum_by-append f (joined (take i xss)) xs

  pub sum_within : (f : X → ℕ) → sum_by f (joined (take i xss)) + sum_by f xs ≤ sum_by f (joined xss)
  sum_within f =
      omega (arith, ap (sum_by f) parts, sum_by-append f (joined (take i xss) ++ xs) (joined (drop (i + 1) xss)), sum_by-append f (joined (take i xss)) xs)

  pub length_next : length (joined (take (i + 1) xss)) ≡ length (joined (take i xss)) + length xs
  length_next = ap length next ∙ length-append (joined (take i xss)) xs

  pub length_within : length (joined (take i xss)) + length xs ≤ length (joined xss)
  length_within =
      omega (arith, ap length parts, length-append (joined (take i xss) ++ xs) (joined (drop (i + 1) xss)), length-append (joined (take i xss)) xs)
