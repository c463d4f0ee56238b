-- What contracts see of a reader of an mbox.
use Rattle.std.specs.Prelude.{◌≡◌, ℕ, Bool, List, take, Option}
use Rattle.kit.specs.Chains.{Cut, StandsFor}
use Rattle.source_buffer.specs.Buffered as buffer

-- `held` are the bytes that it took of its source and has not passed yet, and `place` is the offset where the last mail
-- ended. `taken` counts the bytes that it took so far, and `budget` those that it may take in all. `at_separator` says
-- whether what it holds begins with a separator line that it has found, and `refused` whether a call has failed. `trace`
-- is what the bytes before `place` are cut into.
pub record Reading : Type 0 where
  pub held : List ℕ
  pub place : ℕ
  pub taken : ℕ
  pub budget : ℕ
  pub at_separator : Bool
  pub refused : Bool
  pub trace : Cut

-- the same as its buffer would be seen
abbrev pub buffered : Reading → buffer.Buffered
buffered r = record { held = r.held; taken = r.taken; budget = r.budget }

-- the offset of what it holds: how many bytes come before that
abbrev pub position : Reading → ℕ
position r = buffer.position (buffered r)

-- what is held, followed by what the source has left, is the file from the reader's position on
abbrev pub IsAt : List ℕ → List ℕ → Reading → Type 0
IsAt file left r = buffer.IsAt file left (buffered r)

-- these bytes were taken of what a source had left
abbrev pub Takes : Option (List ℕ) → Option (List ℕ) → Reading → Reading → List ℕ → Type 0
Takes left_before left_after before after bytes = buffer.BufferTakes left_before left_after (buffered before) (buffered after) bytes

-- The trace stands for the bytes of the file up to the place, and what is held begins there.
pub record IsTraced (file : List ℕ) (r : Reading) : Type 0 where
  pub place : r.place ≡ position r
  pub trace : StandsFor r.trace (take r.place file)
