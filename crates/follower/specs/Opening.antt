-- What it answers to open a follower, and to pass over what was followed of its files before.
use Rattle.std.specs.Prelude.{◌≡◌, ◌≤◌, ◌<◌, ℕ, length, Result, Ok, Err, ⊤}
use Rattle.outside.specs.declared.shelf.Place.{Place}
use Rattle.mailbox_model.specs.Lists.{Bytes}
use Rattle.state_store.specs.States.{State}
use Rattle.keeper.specs.Opening.{IsOthers}
use Rattle.follower.specs.declared.fault.Input.TheVariants.{Mbox, Steps}
use Rattle.follower.specs.declared.fault.RunFault.{RunFault}
use Rattle.follower.specs.declared.fault.RunFault.TheVariants as fault
use Rattle.follower.specs.Feed.{Files, lines_left, mails_left}
use Rattle.follower.specs.Following.{Following, StandsInMbox, StandsInSteps, lines_ahead, mails_ahead}

-- why nothing was opened: damage, or another address, of what stands
abbrev pub IsOpenFault : Bytes → Result State (Place × ℕ) → RunFault → Type 0
IsOpenFault me stand fault.Disk = ⊤
IsOpenFault me stand (fault.Damaged place at) = stand ≡ Err (place, at)
IsOpenFault me stand (fault.OtherMe other) = IsOthers me other stand
IsOpenFault me stand fault.Memory = ⊤
IsOpenFault me stand _ = ⊥

-- What is opened is what stands, and is the state of this address.
abbrev pub Opens : Bytes → Result Following RunFault → Result State (Place × ℕ) → Type 0
Opens me (Ok f) stand = (stand ≡ Ok f.keeper.state) × (f.keeper.state.mailbox.me ≡ me)
Opens me (Err why) stand = IsOpenFault me stand why

-- the input failed, or was not to end
abbrev pub IsReadFault : RunFault → Type 0
IsReadFault (fault.Read input) = ⊤
IsReadFault (fault.Endless input) = ⊤
IsReadFault _ = ⊥

-- where the state of another address is kept, this holds
abbrev pub OnOtherMe : {T : Type 0} → Result T RunFault → Type 0 → Type 0
OnOtherMe (Err (fault.OtherMe other)) P = P
OnOtherMe _ P = ⊤

-- The place that was kept is within what the mbox had, the mails from there on are next, and the reader stands there.
pub record StandsAtMails (old : Following) (before : Bytes) (new : Following) (after : Bytes) : Type 0 where
  pub within : old.keeper.state.position.mbox ≤ length before
  pub ahead : mails_ahead new after ≡ mails_left old.keeper.state.position before
  pub place : new.mbox.place ≡ old.keeper.state.position.mbox
  pub stands : (files : Files) → files.mbox ≡ before → StandsInMbox files new after

-- or the mbox is shorter
abbrev pub StartsMbox : Result Unit RunFault → Following → Bytes → Following → Bytes → Type 0
StartsMbox (Ok _) old before new after = StandsAtMails old before new after
StartsMbox (Err (fault.Short Mbox)) old before new after = length before < old.keeper.state.position.mbox
StartsMbox (Err why) old before new after = IsReadFault why

-- the same of the steps file
pub record StandsAtLines (old : Following) (before : Bytes) (new : Following) (after : Bytes) : Type 0 where
  pub within : old.keeper.state.position.steps ≤ length before
  pub ahead : lines_ahead new after ≡ lines_left old.keeper.state.position before
  pub place : new.lines.place ≡ old.keeper.state.position.steps
  pub stands : (files : Files) → files.steps ≡ before → StandsInSteps files new after

abbrev pub StartsLines : Result Unit RunFault → Following → Bytes → Following → Bytes → Type 0
StartsLines (Ok _) old before new after = StandsAtLines old before new after
StartsLines (Err (fault.Short Steps)) old before new after = length before < old.keeper.state.position.steps
StartsLines (Err why) old before new after = IsReadFault why
