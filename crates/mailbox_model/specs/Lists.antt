-- Words on lists.
use Rattle.std.specs.Prelude.{ℕ, not, Option, Some, None, List, [], ◌∷◌, filter}
use Rattle.std.specs.Option.{option_or}
use Rattle.std.specs.Str.{bytes_eq}

-- ids, addresses and texts
abbrev pub Bytes : Type 0
Bytes = List ℕ

-- all but this one
abbrev pub without : Bytes → List Bytes → List Bytes
without x xs = filter (λ y. not (bytes_eq x y)) xs

abbrev pub last_of : {X : Type 0} → List X → Option X
last_of [] = None
last_of (x ∷ xs) = option_or (last_of xs) (Some x)

-- the first that f gives at an element
abbrev pub first_some : {X Y : Type 0} → (X → Option Y) → List X → Option Y
first_some f [] = None
first_some f (x ∷ xs) = option_or (f x) (first_some f xs)
