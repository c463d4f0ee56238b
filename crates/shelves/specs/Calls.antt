-- The calls of a shelf in memory, and which of them are refused.
use Rattle.std.specs.Prelude.{ℕ, ◌⊎◌, ◌≤◌, List, [], ◌∷◌, ◌++◌, length, nat_lt, if◌then◌else◌, Option, IsSomeAnd}
use Rattle.outside.specs.Schedule.{Schedule, after_call, FailsNext}
use Rattle.shelves.specs.declared.call.ShelfCall.{ShelfCall}

pub record Calls : Type 0 where
  -- those that are recorded
  pub calls : List ShelfCall
  -- how many can be
  pub room : ℕ
  pub schedule : Schedule
  -- the number of the first call that is refused as are all after it
  pub stop : Option ℕ

-- one call more, which is recorded where there is room
abbrev pub recorded : ShelfCall → Calls → Calls
recorded call log = record {
  calls = if nat_lt (length log.calls) log.room then log.calls ++ call ∷ [] else log.calls;
  room = log.room;
  schedule = after_call log.schedule;
  stop = log.stop;
}

-- the next call is to fail, or the stop is reached, or there is no room to record it
abbrev pub RefusesNext : Calls → Type 0
RefusesNext log = FailsNext log.schedule
    ⊎ (IsSomeAnd log.stop (λ stop. stop ≤ (after_call log.schedule).calls) ⊎ (log.room ≤ length log.calls))
