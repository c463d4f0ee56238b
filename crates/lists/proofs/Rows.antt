-- Worked rows of the definitions, which compute.
use Rattle.std.proofs.Common.{◌≡◌, false, [], ◌∷◌, codes, refl}
use Rattle.std.specs.Prelude.{bytes_eq}
use Rattle.std.specs.Ordering.{nat_cmp}
use Rattle.lists.specs.Distinct.{are_distinct, each_once, lasts}
use Rattle.lists.specs.Sorted.{sorted_by}

distinct_not : are_distinct (codes "b" ∷ codes "a" ∷ codes "b" ∷ []) ≡ false
distinct_not = refl

once_the_first : each_once (codes "b" ∷ codes "a" ∷ codes "b" ∷ codes "c" ∷ []) ≡ codes "b" ∷ codes "a" ∷ codes "c" ∷ []
once_the_first = refl

only_the_last : lasts bytes_eq (codes "b" ∷ codes "a" ∷ codes "b" ∷ codes "c" ∷ []) ≡ codes "a" ∷ codes "b" ∷ codes "c" ∷ []
only_the_last = refl

sorted_three : sorted_by nat_cmp (3 ∷ 1 ∷ 2 ∷ []) ≡ 1 ∷ 2 ∷ 3 ∷ []
sorted_three = refl
