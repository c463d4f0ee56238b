-- The bytes of a source that a buffer holds.
use Rattle.std.specs.Prelude.{◌≡◌, ◌≤◌, ℕ, ◌+◌, ◌-◌, List, ◌++◌, length, drop, Option}
use Rattle.std.specs.Io.KnownBytes.{Consumes}
use Rattle.kit.specs.Chains.{Adds, Cut}

-- the bytes that are held, how many were taken so far, and how many may be in all
pub record Buffered : Type 0 where
  pub held : List ℕ
  pub taken : ℕ
  pub budget : ℕ

-- the offset of what is held: how many bytes of the source come before that
abbrev pub position : Buffered → ℕ
position b = b.taken - length b.held

-- what is held, followed by what the source has left, is the file from the position on
abbrev pub IsAt : List ℕ → List ℕ → Buffered → Type 0
IsAt file left b = b.held ++ left ≡ drop (position b) file

-- these bytes were taken of what a source had left, and no more than the budget
pub record BufferTakes (left_before left_after : Option (List ℕ)) (before after : Buffered) (bytes : List ℕ) : Type 0 where
  pub left : Consumes left_before left_after bytes
  pub taken : after.taken ≡ before.taken + length bytes
  pub budget : after.budget ≡ before.budget
  pub within : before.taken ≤ before.budget → after.taken ≤ after.budget

-- so many of the bytes that were held and taken were dropped and added to a trace, and those after them are held
abbrev pub Drops : Cut → Cut → List ℕ → List ℕ → ℕ → List ℕ → Type 0
Drops old new held bytes count rest =
    (dropped : List ℕ) × (held ++ bytes ≡ dropped ++ rest) × (length dropped ≡ count) × Adds old new dropped

-- what is held now is the rest of what was held and taken
abbrev pub HoldsRest : List ℕ → List ℕ → List ℕ → Type 0
HoldsRest held bytes rest = (prefix : List ℕ) × (held ++ bytes ≡ prefix ++ rest)
