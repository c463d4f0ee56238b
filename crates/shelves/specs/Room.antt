-- The memory that a shelf takes ahead.
use Rattle.std.specs.Prelude.{ℕ, ◌≤◌, List, All, Vec, vec_len, vec_capacity}

-- so many elements have room in it, and it has no more than these
abbrev pub Fits : {X Z : Type 0} → ℕ → Vec X Z → Type 0
Fits room all = (vec_len all ≤ room) × (room ≤ vec_capacity all)

-- so many elements have room in each
abbrev pub HaveRoom : {X Z : Type 0} → ℕ → List (Vec X Z) → Type 0
HaveRoom room spare = All (λ v. room ≤ vec_capacity v) spare
