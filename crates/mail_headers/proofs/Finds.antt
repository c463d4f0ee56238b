-- A search of a list, and whether an element passes its test.
use Rattle.std.proofs.Common.{◌≡◌, ℕ, zero, suc, ◌<◌, Bool, true, List, [], ◌∷◌, length, Option, Some, None, Bor, refl, ap, ◌∙◌, arith, inl, inr}
use Rattle.std.specs.Prelude.{Any, IsSome, IsTrue, ◌↔◌, find, option_map, slice_index_or}
use Rattle.std.specs.Option.{option_copied}
use Rattle.std.proofs.lemmas.Bool.{cases_Bool, false≢true}

module _ {X : Type 0} (passes : X → Bool) where
  -- what a search finds passes
  Any-from_find : (xs : List X) → IsSome (find passes xs) → Any (λ x. IsTrue (passes x)) xs
  Any-from_find [] found = absurd (false≢true found)
  Any-from_find (x ∷ xs) found = elim (cases_Bool (passes x)) [
    | inl is ↦ (0, x, omega arith, refl, is)
    | inr other ↦ (let e = Any-from_find xs (rw other at found) in (suc e.0, e.1, omega arith, e.3, e.4))
  ]

  -- where an element passes, a search finds one
  find-from_Any : (xs : List X) (k : ℕ) (x : X) → k < length xs → slice_index_or xs k x ≡ x → IsTrue (passes x) → IsSome (find passes xs)
  find-from_Any [] k x lt at is = absurd (omega arith)
  find-from_Any (y ∷ xs) zero x lt at is = let first : passes y ≡ true = ap passes at ∙ is in rw first refl
  find-from_Any (y ∷ xs) (suc k) x lt at is = elim (cases_Bool (passes y)) [
    | inl first ↦ rw first refl
    | inr other ↦ rw other (find-from_Any xs k x (omega arith) at is)
  ]

  IsSome-part : {Y : Type 0} (part : X → Y) (found : Option X) (r : Option (Bor Y)) → option_copied r ≡ option_map part found → IsSome r ↔ IsSome found
  IsSome-part part None None same = (λ h. h, λ h. h)
  IsSome-part part (Some x) (Some y) same = (λ h. refl, λ h. refl)
  IsSome-part part None (Some y) same = cc
  IsSome-part part (Some x) None same = cc

  -- a part of what a search finds is there exactly where an element passes
  pub found_exactly : {Y : Type 0} (part : X → Y) (xs : List X) (r : Option (Bor Y)) → option_copied r ≡ option_map part (find passes xs)
      → IsSome r ↔ Any (λ x. IsTrue (passes x)) xs
  found_exactly part xs r same =
      let alike = IsSome-part part (find passes xs) r same in
      (λ h. Any-from_find xs (alike.0 h), λ h. alike.1 (find-from_Any xs h.0 h.1 h.2 h.3 h.4))
