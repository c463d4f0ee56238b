-- What remains, as seen from a state within a line, and the steps from state to state.
use Rattle.std.specs.Prelude.{ℕ, ◌==◌, if◌then◌else◌, ◌<◌, ◌≡◌, Bool, true, false, List, [], ◌∷◌, ◌++◌, take, ⊤, Option, None, Some}
use Rattle.kit.specs.Lines.{raw_lines}
use Rattle.mboxrd.specs.Remaining.{Remaining, push, remaining, glue, head_line, tail_lines, from_text}
use Rattle.mboxrd.specs.declared.line_state.Preceding.{Preceding}
use Rattle.mboxrd.specs.declared.line_state.Preceding.TheVariants.{Text, Nothing, EmptyLf, EmptyCrLf}
use Rattle.mboxrd.specs.declared.line_state.LineState.{LineState}
use Rattle.mboxrd.specs.declared.line_state.LineState.TheVariants.{Separator, Start, From, Quote, Cr, Inside}

-- whether a separator line may follow
abbrev pub separator_may_follow : Preceding → Bool
separator_may_follow Text = false
separator_may_follow Nothing = true
separator_may_follow EmptyLf = true
separator_may_follow EmptyCrLf = true

-- the empty line before this one, which is withheld from the mail
abbrev pub withheld_line : Preceding → List ℕ
withheld_line Text = []
withheld_line Nothing = []
withheld_line EmptyLf = 10 ∷ []
withheld_line EmptyCrLf = 13 ∷ 10 ∷ []

-- what remains in raw lines, of which the first is the rest of the line that the state is in
abbrev pub remaining_in : LineState → List (List ℕ) → Remaining
remaining_in Separator ls = remaining false [] (tail_lines ls)
remaining_in (Start p) ls = remaining (separator_may_follow p) (withheld_line p) ls
remaining_in (From p k) ls = remaining true (withheld_line p) (glue (take k from_text) ls)
remaining_in (Quote k) ls = remaining false [] (glue (62 ∷ take k from_text) ls)
remaining_in Cr ls = remaining false [] (glue (13 ∷ []) ls)
remaining_in Inside ls = push (head_line ls) (remaining false [] (tail_lines ls))

-- what remains in bytes
unfoldable pub remaining_from : LineState → List ℕ → Remaining
remaining_from state bytes = remaining_in state (raw_lines bytes)

-- a state that a reader can be in
abbrev pub IsLineState : LineState → Type 0
IsLineState (From p k) = (0 < k) × (k < 5) × (separator_may_follow p ≡ true)
IsLineState (Quote k) = k < 5
IsLineState _ = ⊤

-- the state after a byte of a line that the mail has as it is
abbrev pub state_after : ℕ → LineState
state_after b = if b == 10 then Start Text else Inside

-- Over the bytes that are read these are added to the mail, and the reader comes to the next state, or at None to a
-- separator line.
abbrev pub StepsTo : LineState → List ℕ → List ℕ → Option LineState → Type 0
StepsTo state read added (Some next) = IsLineState next × ((bs : List ℕ) → remaining_from state (read ++ bs) ≡ push added (remaining_from next bs))
StepsTo state read added None = (bs : List ℕ) → remaining_from state (read ++ bs) ≡ record { mail = added; rest = raw_lines (from_text ++ bs) }

-- the bytes end here, and these are added to the mail
abbrev pub EndsWith : LineState → List ℕ → Type 0
EndsWith state added = remaining_from state [] ≡ record { mail = added; rest = [] }
