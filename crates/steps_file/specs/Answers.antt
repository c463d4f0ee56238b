-- What a reader of a steps file answers.
use Rattle.std.specs.Prelude.{◌≡◌, ℕ, ◌+◌, List, [], ◌∷◌, ◌++◌, length, Option, Some, None}
use Rattle.kit.specs.Chains.{Adds}
use Rattle.kit.specs.Lines.{content}
use Rattle.source_buffer.specs.Buffered as buffer
use Rattle.steps_file.specs.declared.step.Step.{Step}
use Rattle.steps_file.specs.declared.taken.Taken.{Taken}
use Rattle.steps_file.specs.declared.taken.Taken.TheVariants as taken
use Rattle.steps_file.specs.Lines.{ended_lines}
use Rattle.steps_file.specs.Steps.{step_of}
use Rattle.steps_file.specs.Reading.{Reading}

-- The answer is the step of the first of these lines, or that it is no step, or that there is no line. The others are
-- those from the reader's new position on.
abbrev pub IsNext : List (List ℕ) → Taken → Reading → Reading → List (List ℕ) → Type 0
IsNext [] (taken.End) old new others = (others ≡ []) × (new.place ≡ old.place)
IsNext (raw ∷ lines) (taken.Step s) old new others =
    (step_of (content raw) ≡ Some s) × (new.place ≡ old.place + length raw) × (others ≡ lines)
IsNext (raw ∷ lines) (taken.NoStep) old new others =
    (step_of (content raw) ≡ None) × (new.place ≡ old.place + length raw) × (others ≡ lines)
IsNext lines answer old new others = ⊥

-- the answer for a line that is this step, or none
abbrev pub answer_of : Option Step → Taken
answer_of (Some s) = taken.Step s
answer_of None = taken.NoStep

-- what may follow the bytes that were taken: nothing where there is no line, since the source is then at its end
abbrev pub MayFollow : Taken → List ℕ → Type 0
MayFollow answer rest = answer ≡ taken.End → rest ≡ []

-- With the bytes that were held, those that were taken decide the answer: it is the next line's, whatever follows them.
abbrev pub Decides : Reading → List ℕ → Taken → Reading → Type 0
Decides old bytes answer new = (rest : List ℕ) → MayFollow answer rest
    → IsNext (ended_lines (old.held ++ (bytes ++ rest))) answer old new (ended_lines (new.held ++ rest))

-- what is held now is the rest of what was held and taken
abbrev pub HoldsRest : Reading → List ℕ → Reading → Type 0
HoldsRest old bytes new = buffer.HoldsRest old.held bytes new.held

-- what was passed of what was held and taken was added to the trace
abbrev pub Goes : Reading → List ℕ → Reading → Type 0
Goes old bytes new = (passed : List ℕ) × (old.held ++ bytes ≡ passed ++ new.held) × Adds old.trace new.trace passed

-- the same up to the end of a line, and nothing where there is none
abbrev pub GoesBy : Taken → Reading → List ℕ → Reading → Type 0
GoesBy taken.End old bytes new = new.trace ≡ old.trace
GoesBy _ old bytes new = Goes old bytes new
