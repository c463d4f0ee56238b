-- A steps file that grows, and the lines after a line.
use Rattle.std.specs.Prelude.{◌≡◌, ℕ, ◌≤◌, List, ◌∷◌, ◌++◌, length, drop}
use Rattle.steps_file.specs.Lines.{ended_lines}

-- the ended lines of bytes that grew begin with those of before
abbrev pub LinesGrow : Type 0
LinesGrow = (old more : List ℕ) → (later : List (List ℕ)) × (ended_lines (old ++ more) ≡ ended_lines old ++ later)

-- an ended line lies in the bytes, and the ended lines from its end on are those that come after it
abbrev pub LinesGoOn : Type 0
LinesGoOn = (bytes raw : List ℕ) (others : List (List ℕ)) → ended_lines bytes ≡ raw ∷ others
    → (length raw ≤ length bytes) × (ended_lines (drop (length raw) bytes) ≡ others)
