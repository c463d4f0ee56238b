-- Lists without repeats.
use Rattle.std.specs.Prelude.{ℕ, Bool, true, not, ◌&&◌, List, [], ◌∷◌, bytes_eq, reverse}
use Rattle.std.specs.List.{filter, list_any}

-- no two are alike
abbrev pub are_distinct : List (List ℕ) → Bool
are_distinct [] = true
are_distinct (x ∷ xs) = not (list_any (bytes_eq x) xs) && are_distinct xs

-- of elements that are alike only the first
abbrev pub firsts : {X : Type 0} → (X → X → Bool) → List X → List X
firsts alike [] = []
firsts alike (x ∷ xs) = x ∷ filter (λ y. not (alike x y)) (firsts alike xs)

-- and only the last
abbrev pub lasts : {X : Type 0} → (X → X → Bool) → List X → List X
lasts alike xs = reverse (firsts alike (reverse xs))

-- each element once, where it first is
abbrev pub each_once : List (List ℕ) → List (List ℕ)
each_once xs = firsts bytes_eq xs
