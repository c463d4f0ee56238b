-- The lines of the steps file.
use Rattle.std.specs.Prelude.{ℕ, Bool, nat_eq, List, filter, codes}
use Rattle.std.specs.List.{ends_with}
use Rattle.kit.specs.Lines.{raw_lines}

-- whether an LF ends a raw line
abbrev pub is_ended : List ℕ → Bool
is_ended raw = ends_with nat_eq raw (codes "\n")

-- The raw lines that an LF ends. A last line without one is no line yet.
abbrev pub ended_lines : List ℕ → List (List ℕ)
ended_lines bytes = filter is_ended (raw_lines bytes)
