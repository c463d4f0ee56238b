-- What a call says of a source whose bytes are known.
use Rattle.std.specs.Prelude.{ℕ, List, Option, Some, None, ⊤}

-- if the bytes that a source had before a call are known, so are those that it has after it, and this holds of both
abbrev pub IfKnown : Option (List ℕ) → Option (List ℕ) → (List ℕ → List ℕ → Type 0) → Type 0
IfKnown None after P = ⊤
IfKnown (Some before) None P = ⊥
IfKnown (Some before) (Some after) P = P before after
