-- What the functions that write one line after the other add. The text that they make is `written (joined ..)`.
use Rattle.std.specs.Prelude.{ℕ, ◌&&◌, Bool, if◌then◌else◌, List, [], ◌∷◌, ◌++◌}
use Rattle.flowed_text.specs.declared.quoted.QuotedLine.{QuotedLine}
use Rattle.flowed_text.specs.Flowed.{Quoted, unspaced, runs_on}

-- a line that the program holds, as the line that it is
abbrev pub shown : QuotedLine → Quoted
shown line = record { depth = line.depth; text = line.text.now }

-- the LF between a line and those that follow it
abbrev pub break_before : List Quoted → List ℕ
break_before [] = []
break_before (next ∷ more) = 10 ∷ []

-- what follows the marks of a line, up to the text of the next one or its marks
abbrev pub line_end : Bool → Quoted → List Quoted → List ℕ
line_end delsp line more =
    (if runs_on line more && delsp then unspaced line.text else line.text) ++ (if runs_on line more then [] else break_before more)
