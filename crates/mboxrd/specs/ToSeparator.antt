-- What a reader passes on its way to the next separator line, or to the end.
use Rattle.std.specs.Prelude.{◌≡◌, Bool, true, false, ℕ, List, [], ◌∷◌, ◌++◌}
use Rattle.kit.specs.Lines.{raw_lines}
use Rattle.mboxrd.specs.declared.line_state.LineState.{LineState}
use Rattle.mboxrd.specs.Remaining.{from_text}
use Rattle.mboxrd.specs.LineStates.{remaining_from}
use Rattle.mboxrd.specs.Mails.{mails_from}
use Rattle.mboxrd.specs.Reading.{Reading, position}
use Rattle.mboxrd.specs.Answers.{MayFollow}

-- `passed` ends after the `From ` of a separator line, or at false with the mbox. `added` is what the mail has of it.
abbrev pub Reaches : LineState → List ℕ → List ℕ → Bool → Type 0
Reaches state passed added true = (bs : List ℕ) → remaining_from state (passed ++ bs) ≡ record { mail = added; rest = raw_lines (from_text ++ bs) }
Reaches state passed added false = remaining_from state passed ≡ record { mail = added; rest = [] }

-- there is no separator line in these bytes
abbrev pub NoSeparator : LineState → List ℕ → Type 0
NoSeparator state bytes = (added : List ℕ) × Reaches state bytes added false

-- These bytes were taken, and the mails from the old position are those from the new one.
abbrev pub SameMails : Reading → List ℕ → Reading → Type 0
SameMails old bytes new = (rest : List ℕ) → MayFollow new rest
    → mails_from (position old) (old.held ++ (bytes ++ rest)) ≡ mails_from (position new) (new.held ++ rest)

-- They are this mail and those from the new position.
abbrev pub OneMail : Reading → List ℕ → List ℕ → Reading → Type 0
OneMail old bytes mail new = (rest : List ℕ) → MayFollow new rest
    → mails_from (position old) (old.held ++ (bytes ++ rest)) ≡ record { bytes = mail; end = position new } ∷ mails_from (position new) (new.held ++ rest)
