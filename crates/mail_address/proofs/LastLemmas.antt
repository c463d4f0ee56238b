-- What follows the last element that passes a test.
use Rattle.std.proofs.Common.{◌≡◌, ℕ, suc, ◌+◌, ◌-◌, ◌<◌, Bool, true, false, not, cond, eqb, List, [], ◌∷◌, length, drop, reverse, refl, ap, ◌∙◌, arith, inl, inr}
use Rattle.std.specs.List.{after_last, list_any, prefix_len, suffix_len}
use Rattle.std.proofs.lemmas.Bool.{cases_Bool, eq-eqb, ne_eqb}
use Rattle.std.proofs.lemmas.List.{reverse-append, length-reverse}
use Rattle.std.proofs.lemmas.List.Folds.{prefix_len-append}

module _ {X : Type 0} (p : X → Bool) where
  abbrev tail_len : List X → ℕ
  tail_len xs = suffix_len (λ x. not (p x)) xs

  tail_len-cons : (x : X) (xs : List X)
      → tail_len (x ∷ xs) ≡ cond (eqb (tail_len xs) (length xs)) (length xs + cond (not (p x)) (1 + 0) 0) (tail_len xs)
  tail_len-cons x xs =
      ap (prefix_len (λ y. not (p y))) (reverse-append (x ∷ []) xs)
      ∙ prefix_len-append (λ y. not (p y)) (reverse xs) (x ∷ [])
      ∙ ap (λ n. cond (eqb (tail_len xs) n) (n + cond (not (p x)) (1 + 0) 0) (tail_len xs)) (length-reverse xs)

  tail_len-none : (xs : List X) → list_any p xs ≡ false → tail_len xs ≡ length xs
  tail_len-none [] none = refl
  tail_len-none (x ∷ xs) none =
      elim (cases_Bool (p x)) [
        | inl here ↦ absurd (let e : true ≡ false = rw here at none in cc)
        | inr other ↦ (
            let all = tail_len-none xs (rw other at none) in
            tail_len-cons x xs ∙ rw (eq-eqb (tail_len xs) (length xs) all, other) (omega arith))
      ]

  tail_len-some : (xs : List X) → list_any p xs ≡ true → tail_len xs < length xs
  tail_len-some [] some = absurd cc
  tail_len-some (x ∷ xs) some =
      elim (cases_Bool (list_any p xs)) [
        | inl more ↦ (
            let less = tail_len-some xs more in
            let same : tail_len (x ∷ xs) ≡ tail_len xs = tail_len-cons x xs ∙ rw (ne_eqb (tail_len xs) (length xs) (λ e. omega (arith, e, less))) refl in
            omega (arith, same, less))
        | inr none ↦ (
            elim (cases_Bool (p x)) [
              | inl here ↦ (
                  let all : tail_len (x ∷ xs) ≡ length xs + 0 = tail_len-cons x xs ∙ rw (eq-eqb (tail_len xs) (length xs) (tail_len-none xs none), here) refl in
                  omega (arith, all))
              | inr other ↦ absurd (let e : false ≡ true = rw (other, none) at some in cc)
            ])
      ]

  pub after_last-none : (xs : List X) → list_any p xs ≡ false → after_last p xs ≡ xs
  after_last-none xs none =
      let zero_left : length xs - tail_len xs ≡ 0 = omega (arith, tail_len-none xs none) in
      ap (λ n. drop n xs) zero_left

  pub after_last-more : (x : X) (xs : List X) → list_any p xs ≡ true → after_last p (x ∷ xs) ≡ after_last p xs
  after_last-more x xs some =
      let less = tail_len-some xs some in
      let same : tail_len (x ∷ xs) ≡ tail_len xs = tail_len-cons x xs ∙ rw (ne_eqb (tail_len xs) (length xs) (λ e. omega (arith, e, less))) refl in
      let more : length (x ∷ xs) - tail_len (x ∷ xs) ≡ suc (length xs - tail_len xs) = omega (arith, same, less) in
      ap (λ n. drop n (x ∷ xs)) more

  pub after_last-here : (x : X) (xs : List X) → p x ≡ true → list_any p xs ≡ false → after_last p (x ∷ xs) ≡ xs
  after_last-here x xs here none =
      let all : tail_len (x ∷ xs) ≡ length xs + 0 = tail_len-cons x xs ∙ rw (eq-eqb (tail_len xs) (length xs) (tail_len-none xs none), here) refl in
      let one : length (x ∷ xs) - tail_len (x ∷ xs) ≡ suc 0 = omega (arith, all) in
      ap (λ n. drop n (x ∷ xs)) one
