-- The fields of a header, by the contents of its lines (RFC 5322, sections 2.2 and 4.5).
use Rattle.std.specs.Prelude.{ℕ, Bool, false, if◌then◌else◌, List, [], ◌∷◌, ◌++◌, take_while, Option, Some, None, option_map, option_and_then}
use Rattle.std.specs.List.{cons_option, concat}
use Rattle.kit.specs.Cuts.{split_once}
use Rattle.kit.specs.Printing.{is_visible}
use Rattle.kit.specs.White.{is_white, trim, trim_end}

-- a field: its name in the case in which it is written, and its body, unfolded and without outer white space
pub record Field : Type 0 where
  pub name : List ℕ
  pub body : List ℕ

-- What precedes the first colon of a line as a name, without white space at its end, and what follows it. A name is of
-- visible characters, and none of them is a colon.
abbrev pub named : List ℕ × List ℕ → Option (List ℕ × List ℕ)
named p = if is_visible (trim_end p.0) then Some (trim_end p.0, p.1) else None

-- the name of a field line, and what follows its colon (58), which is the first in the line
abbrev pub name_and_rest : List ℕ → Option (List ℕ × List ℕ)
name_and_rest line = option_and_then named (split_once line 58)

-- whether a line continues the one before it
abbrev pub continues : List ℕ → Bool
continues [] = false
continues (b ∷ bs) = is_white b

-- the contents of the lines that continue the line before these
abbrev pub continuation : List (List ℕ) → List ℕ
continuation lines = concat (take_while continues lines)

-- the field that begins in a line, if it is a field line; other lines follow it
abbrev pub field_of : List ℕ → List (List ℕ) → Option Field
field_of line following =
    option_map (λ p. record { name = p.0; body = trim (p.1 ++ continuation following) }) (name_and_rest line)

-- The fields that begin in lines. None begins in a line that continues another, since that has no name before its colon.
abbrev pub fields_of : List (List ℕ) → List Field
fields_of [] = []
fields_of (l ∷ ls) = cons_option (field_of l ls) (fields_of ls)
