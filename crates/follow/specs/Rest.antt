-- A run that was stopped, and is run again.
use Rattle.std.specs.Prelude.{◌≡◌, ◌≤◌, ℕ, List, Option, Some, Ok}
use Rattle.outside.specs.Places.{Places}
use Rattle.mailbox_model.specs.Lists.{Bytes}
use Rattle.state_store.specs.States.{State}
use Rattle.state_store.specs.Stands.{stands}
use Rattle.answers.specs.declared.question.Question.{Question}
use Rattle.follower.specs.Committing.{AllStand}
use Rattle.follower.specs.Feed.{Feed, feed}
use Rattle.follower.specs.Going.{Leads}
use Rattle.follower.specs.Inputs.{AreSame}
use Rattle.follower.specs.Reached.{reached}
use Rattle.follower.specs.Resuming.{CountsOn, LiesWithin, MboxGrows, StepsGrow}
use Rattle.follow.specs.declared.words.Request.{Request}
use Rattle.follow.specs.Outcome.{Found, Given, MayStand, changes, given_of, outcome, result}
use Rattle.follow.specs.Words.{request}

-- A run followed its files from a state on, which knew them, and made the first of its changes. The second run has the same words, finds the
-- state after these changes, and files that may have grown. It answers as if it had found the state from before the first.
abbrev pub TheRest : Type 0
TheRest = (q : Question) (second : Given) (s t : State) (mbox : Bytes) (steps : Option Bytes) (others : Feed)
    → MboxGrows mbox second.mbox → StepsGrow steps second.steps second.moment → LiesWithin s.position mbox steps → AreSame s.position mbox steps
    → Leads s (feed s mbox steps second.moment) t others
    → CountsOn (reached s (changes second s)) → CountsOn (reached t (changes second t))
    → result q (record second { stand = Ok t }) ≡ result q (record second { stand = Ok s })

-- ---- a run that a crash stopped

-- A crash left these places: by the clause `crash` of `run` they may stand at some moment of a run that found this. What the
-- run found there stands in each crash outcome at its start, and is the state of its address.
pub record Stopped (g : Given) (outcomes : Places → Type 0) (left : Places) : Type 0 where
  pub state : State
  pub found : g.stand ≡ Ok state
  pub own : state.mailbox.me ≡ g.me
  pub settled : AllStand g.me state outcomes
  pub may_stand : MayStand g outcomes left

-- Something stands there, and no fewer changes are kept than the run found: one that was acknowledged stays.
abbrev pub KeptChangesStay : (Places → Type 0) → Type 0
KeptChangesStay outcomes = (g : Given) (left : Places) (stopped : Stopped g outcomes left)
    → (t : State) × (stands g.me left ≡ Ok t) × (stopped.state.position.count ≤ t.position.count)

-- The files are those of the run or have grown since, the moment is the same, and neither this run nor one that finds what
-- the stopped run found meets a change with a count of 2^62.
pub record RunsAgain (me : Bytes) (at : Option ℕ) (first second : Found) (left : Places) (s : State) : Type 0 where
  pub moment : (given_of me at second).moment ≡ (given_of me at first).moment
  pub mbox : MboxGrows first.mbox second.mbox
  pub steps : StepsGrow first.steps second.steps (given_of me at second).moment
  pub within : LiesWithin s.position first.mbox first.steps
  pub same : AreSame s.position first.mbox first.steps
  pub counts : CountsOn (reached s (changes (given_of me at second) s))
  pub counts_left : (t : State) → stands me left ≡ Ok t → CountsOn (reached t (changes (given_of me at second) t))

-- The next run of the same words, over what the crash left, has the outcome of one that finds what the stopped run found.
abbrev pub RunAfterACrash : (Places → Type 0) → Type 0
RunAfterACrash outcomes = (words : List Bytes) (r : Request) (first second : Found) (left : Places) → request words ≡ Some r
    → (stopped : Stopped (given_of r.me r.at first) outcomes left) → RunsAgain r.me r.at first second left stopped.state
    → outcome words (record second { places = left }) ≡ outcome words (record second { places = first.places })
