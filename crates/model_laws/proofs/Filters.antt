-- One filter after another.
use Rattle.std.proofs.Common.{◌≡◌, refl, ap, Bool, true, false, cond, List, [], ◌∷◌}
use Rattle.std.specs.Prelude.{filter}

module _ {X : Type 0} (p q : X → Bool) where
  pub filter_turn : (xs : List X) → filter p (filter q xs) ≡ filter q (filter p xs)
  filter_turn [] = refl
  filter_turn (x ∷ xs) = by (p x) (q x) refl refl (filter_turn xs)
    where
      by : (b c : Bool) → p x ≡ b → q x ≡ c → filter p (filter q xs) ≡ filter q (filter p xs)
          → filter p (cond c (x ∷ filter q xs) (filter q xs)) ≡ filter q (cond b (x ∷ filter p xs) (filter p xs))
      by true true e f h = rw e (rw f (ap (λ ys. x ∷ ys) h))
      by true false e f h = rw f h
      by false true e f h = rw e h
      by false false e f h = h

pub filter_twice : {X : Type 0} (p : X → Bool) (xs : List X) → filter p (filter p xs) ≡ filter p xs
filter_twice p [] = refl
filter_twice p (x ∷ xs) =
    elim (p x) as (λ b. p x ≡ b → filter p (cond b (x ∷ filter p xs) (filter p xs)) ≡ cond b (x ∷ filter p xs) (filter p xs)) [
      | true ↦ λ e. rw e (ap (λ ys. x ∷ ys) (filter_twice p xs))
      | false ↦ λ e. filter_twice p xs
    ] refl
