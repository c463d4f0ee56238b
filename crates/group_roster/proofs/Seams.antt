-- Counts and edits at the seam of two lists.
use Rattle.std.proofs.Common.{◌≡◌, refl, ap, ◌∙◌, ℕ, suc, Bool, true, false, cond, List, [], ◌∷◌, ◌++◌, length, drop, arith}
use Rattle.std.specs.Prelude.{count_by}
use Rattle.std.specs.List.{AllByRecursion, insert, remove}
use Rattle.std.proofs.Math.Seq.{drop-append_seam, take-append_seam}
use Rattle.std.proofs.lemmas.List.Sums.{sum_by-append, sum_by-cons}

module _ {X : Type 0} (xs ys : List X) where
  pub insert_seam : (i : ℕ) (x : X) → i ≡ length xs → insert (xs ++ ys) i x ≡ xs ++ x ∷ ys
  insert_seam i x at =
      ap (λ k. insert (xs ++ ys) k x) at
      ∙ (λ k. take-append_seam xs ys k ++ x ∷ drop-append_seam xs ys k)

  pub remove_seam : (i : ℕ) (x : X) → i ≡ length xs → remove (xs ++ x ∷ ys) i ≡ xs ++ ys
  remove_seam i x at = ap (remove (xs ++ x ∷ ys)) at ∙ ap (λ front. front ++ drop (suc (length xs)) (xs ++ x ∷ ys)) (take-append_seam xs (x ∷ ys)) ∙ ap (λ back. xs ++ back) (past xs)
    where
      past : (zs : List X) → drop (suc (length zs)) (zs ++ x ∷ ys) ≡ ys
      past [] = refl
      past (z ∷ zs) = past zs

module _ {X : Type 0} (p : X → Bool) where
  count_all : (xs : List X) → AllByRecursion (λ x. p x ≡ true) xs → count_by p xs ≡ length xs
  count_all [] h = refl
  count_all (x ∷ xs) h = omega (arith, sum_by-cons (λ y. cond (p y) 1 0) x xs, count_all xs h.1, ap {B = ℕ} (λ b. cond b 1 0) h.0)

  count_none : (xs : List X) → AllByRecursion (λ x. p x ≡ false) xs → count_by p xs ≡ 0
  count_none [] h = refl
  count_none (x ∷ xs) h = omega (arith, sum_by-cons (λ y. cond (p y) 1 0) x xs, count_none xs h.1, ap {B = ℕ} (λ b. cond b 1 0) h.0)

  -- where those before the seam pass a test, and those after it don't
  pub count_seam : (xs ys : List X) → AllByRecursion (λ x. p x ≡ true) xs → AllByRecursion (λ x. p x ≡ false) ys → count_by p (xs ++ ys) ≡ length xs
  count_seam xs ys before after =
      sum_by-append (λ y. cond (p y) 1 0) xs ys ∙ omega (arith, count_all xs before, count_none ys after)

pub all_both : {X : Type 0} (P : X → Type 0) (xs ys : List X) → AllByRecursion P xs → AllByRecursion P ys → AllByRecursion P (xs ++ ys)
all_both P [] ys h k = k
all_both P (x ∷ xs) ys h k = (h.0, all_both P xs ys h.1 k)
