-- A list, and one element of it or beside it.
use Rattle.std.proofs.Common.{◌≡◌, refl, ap, suc, Bool, true, false, cond, List, [], ◌∷◌, ◌++◌, length, arith}
use Rattle.std.specs.List.{filter}

pub no_length : {X : Type 0} (xs : List X) → length xs ≡ 0 → xs ≡ []
no_length [] e = refl
no_length (x ∷ xs) e = absurd (omega arith)

-- an element among others
pub record IsBeside {X : Type 0} (xs : List X) (x : X) : Type 0 where
  pub before : List X
  pub after : List X
  pub is : xs ≡ before ++ x ∷ after

-- what passes is among all
pub passing : {X : Type 0} (p : X → Bool) (xs : List X) (x : X) (rest : List X) → filter p xs ≡ x ∷ rest → IsBeside xs x
passing p [] x rest h = cc
passing {X} p (y ∷ ys) x rest h =
    elim (p y) as (λ b. cond b (y ∷ filter p ys) (filter p ys) ≡ x ∷ rest → IsBeside (y ∷ ys) x) [
      | true ↦ λ e. let same : y ≡ x = cc in record { before = []; after = ys; is = ap (λ z. z ∷ ys) same }
      | false ↦ λ e. let later = passing p ys x rest e in record { before = y ∷ later.before; after = later.after; is = ap (λ zs. y ∷ zs) later.is }
    ] h

-- ---- what passes with it and without it

module _ {X : Type 0} (p : X → Bool) (x : X) (after : List X) where
  pub filter_skipped : (before : List X) → p x ≡ false → filter p (before ++ x ∷ after) ≡ filter p (before ++ after)
  filter_skipped [] fails = rw fails refl
  filter_skipped (b ∷ before) fails = ap (λ zs. cond (p b) (b ∷ zs) zs) (filter_skipped before fails)

  pub filter_counted : (before : List X) → p x ≡ true → length (filter p (before ++ x ∷ after)) ≡ suc (length (filter p (before ++ after)))
  filter_counted [] passes = rw passes refl
  filter_counted (b ∷ before) passes =
      elim (p b) as (λ c. length (cond c (b ∷ filter p (before ++ x ∷ after)) (filter p (before ++ x ∷ after))) ≡ suc (length (cond c (b ∷ filter p (before ++ after)) (filter p (before ++ after))))) [
        | true ↦ ap suc (filter_counted before passes)
        | false ↦ filter_counted before passes
      ]

  pub filter_alone : (before : List X) → p x ≡ true → filter p (before ++ after) ≡ [] → filter p (before ++ x ∷ after) ≡ x ∷ []
  filter_alone [] passes none = rw passes (ap (λ zs. x ∷ zs) none)
  filter_alone (b ∷ before) passes none =
      elim (p b) as (λ c. cond c (b ∷ filter p (before ++ after)) (filter p (before ++ after)) ≡ [] → cond c (b ∷ filter p (before ++ x ∷ after)) (filter p (before ++ x ∷ after)) ≡ x ∷ []) [
        | true ↦ λ e. cc
        | false ↦ λ e. filter_alone before passes e
      ] none
