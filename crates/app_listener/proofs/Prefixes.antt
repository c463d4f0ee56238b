-- How many first elements two lists have in common.
use Rattle.std.proofs.Common.{◌≡◌, refl, ℕ, zero, suc, min, Bool, List, [], ◌∷◌, length, drop, arith}
use Rattle.std.specs.List.{common_prefix_len}

-- behind the end of one of them there are none
pub common-ended : {X Y : Type 0} (e : X → Y → Bool) (xs : List X) (ys : List Y) (n : ℕ) → n ≡ min (length xs) (length ys)
    → common_prefix_len e (drop n xs) (drop n ys) ≡ 0
common-ended e [] ys zero h = refl
common-ended e [] ys (suc n) h = refl
common-ended e (x ∷ xs) [] zero h = refl
common-ended e (x ∷ xs) [] (suc n) h = absurd (omega (arith, h))
common-ended e (x ∷ xs) (y ∷ ys) zero h = absurd (omega (arith, h))
common-ended e (x ∷ xs) (y ∷ ys) (suc n) h = common-ended e xs ys n (omega (arith, h))
