-- Lists that are sorted by inserts.
use Rattle.std.specs.Prelude.{if◌then◌else◌, List, [], ◌∷◌, fold}
use Rattle.std.specs.declared.cmp.Ordering.{Ordering}
use Rattle.std.specs.Ordering.{is_lt}

-- x, before the first element that it is below
abbrev pub insert_by : {X : Type 0} → (X → X → Ordering) → X → List X → List X
insert_by cmp x [] = x ∷ []
insert_by cmp x (y ∷ ys) = if is_lt (cmp x y) then x ∷ y ∷ ys else y ∷ insert_by cmp x ys

-- each inserted, one after the other
abbrev pub sorted_by : {X : Type 0} → (X → X → Ordering) → List X → List X
sorted_by cmp xs = fold (λ sorted x. insert_by cmp x sorted) [] xs
