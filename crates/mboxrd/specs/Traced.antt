-- What a reader adds to its trace: the bytes that it passes, but for what may be of the next separator line.
use Rattle.std.specs.Prelude.{◌≡◌, ⊤, ℕ, Bool, true, false, List, [], ◌++◌, take, Option, None, Some}
use Rattle.kit.specs.Chains.{Adds, Cut}
use Rattle.mboxrd.specs.declared.line_state.LineState.{LineState}
use Rattle.mboxrd.specs.declared.line_state.LineState.TheVariants.{From}
use Rattle.mboxrd.specs.declared.taken.Taken.{Taken}
use Rattle.mboxrd.specs.declared.taken.Taken.TheVariants as taken
use Rattle.mboxrd.specs.Remaining.{from_text}
use Rattle.mboxrd.specs.Reading.{Reading}

-- what was passed last and may be of a separator line
abbrev pub held_back : LineState → List ℕ
held_back (From p k) = take k from_text
held_back _ = []

-- the same after a step, which may have come to a separator line
abbrev pub held_back_at : Option LineState → List ℕ
held_back_at (Some state) = held_back state
held_back_at None = from_text

-- whether there may be any
abbrev pub holds_any : Option LineState → Bool
holds_any (Some (From p k)) = true
holds_any (Some _) = false
holds_any None = true

-- at a separator line its `From `, and none at the end
abbrev pub held_back_if : Bool → List ℕ
held_back_if true = from_text
held_back_if false = []

-- Where a step leads to within what may be a separator line, all is held back that was before and that it reads.
abbrev pub HoldsBack : LineState → List ℕ → Option LineState → Type 0
HoldsBack state read (Some (From p k)) = held_back state ++ read ≡ take k from_text
HoldsBack state read (Some _) = ⊤
HoldsBack state read None = held_back state ++ read ≡ from_text

-- Of what was held back before, and what was passed, all was added but what is held back after it.
pub record Traced (before passed after : List ℕ) (old new : Cut) : Type 0 where
  pub added : List ℕ
  pub all : before ++ passed ≡ added ++ after
  pub adds : Adds old new added

-- what was passed of what was held and taken was added
abbrev pub Goes : Reading → List ℕ → Reading → Type 0
Goes old bytes new = (passed : List ℕ) × (old.held ++ bytes ≡ passed ++ new.held) × Adds old.trace new.trace passed

-- the same up to the end of a mail, and nothing at the end
abbrev pub GoesBy : Taken → Reading → List ℕ → Reading → Type 0
GoesBy taken.End old bytes new = new.trace ≡ old.trace
GoesBy _ old bytes new = Goes old bytes new
