-- How far the changes of a run come.
use Rattle.std.specs.Prelude.{ℕ, ◌+◌, ◌*◌, ◌/◌, if◌then◌else◌, List, [], ◌∷◌, Option, Some, None}
use Rattle.state_store.specs.States.{State}
use Rattle.keeper.specs.Keeping.{is_refused}
use Rattle.follower.specs.Feed.{Fed, Ending, End, BadLine, Feed, after_fed}

-- why the changes come to no end
pub data Stop : Type 0 where
  Full : Stop
  BadStep : (number : ℕ) → Stop

-- where they lead, and why no further, if there is such a cause
pub record Reached : Type 0 where
  pub state : State
  pub stop : Option Stop

abbrev pub stop_at : Ending → Option Stop
stop_at End = None
stop_at (BadLine number) = Some (BadStep number)

-- the changes are made in order, up to the first that is refused
abbrev pub reach : State → List Fed → Ending → Reached
reach s [] ending = record { state = s; stop = stop_at ending }
reach s (f ∷ fs) ending =
    if is_refused s f.change then record { state = s; stop = Some Full } else reach (after_fed s f) fs ending

abbrev pub reached : State → Feed → Reached
reached s f = reach s f.changes f.ending

-- how many of the changes are made, up to the first that is refused
abbrev pub count_made : State → List Fed → ℕ
count_made s [] = 0
count_made s (f ∷ fs) = if is_refused s f.change then 0 else count_made (after_fed s f) fs + 1

-- of so many changes that are made: all, or where the changes come to no end, those of whole commits of 256
abbrev pub committed_of : Option Stop → ℕ → ℕ
committed_of None made = made
committed_of (Some why) made = 256 * (made / 256)

-- how many of the changes are committed
abbrev pub committed_count : State → Feed → ℕ
committed_count s feed = committed_of (reached s feed).stop (count_made s feed.changes)
