-- Whether the inputs of a run are those that were followed: a kept trace is that of the first bytes of its input.
use Rattle.std.specs.Prelude.{◌≡◌, ◌||◌, Bool, bytes_eq, if◌then◌else◌, List, ℕ, take, IfSome, Option, None, Some, Result, Ok, Err}
use Rattle.kit.specs.Chains.{StandsFor, chain}
use Rattle.mailbox_model.specs.Lists.{Bytes}
use Rattle.state_image.specs.Images.{no_trace}
use Rattle.state_image.specs.declared.position.Position.{Position}
use Rattle.follower.specs.declared.fault.Input.{Input}
use Rattle.follower.specs.declared.fault.Input.TheVariants.{Mbox, Steps}
use Rattle.follower.specs.declared.fault.RunFault.{RunFault}
use Rattle.follower.specs.declared.fault.RunFault.TheVariants as fault
use Rattle.follower.specs.Following.{Following}

-- the trace that was kept is this one, or none was kept
abbrev pub is_same : List ℕ → List ℕ → Bool
is_same kept now = bytes_eq kept no_trace || bytes_eq kept now

-- the input that is another one, if one is: the mbox first
abbrev pub other_steps : Position → Option Bytes → Option Input
other_steps p None = None
other_steps p (Some steps) = if is_same p.steps_trace (chain (take p.steps steps)) then None else Some Steps

abbrev pub other_of : Position → Bytes → Option Bytes → Option Input
other_of p mbox steps = if is_same p.mbox_trace (chain (take p.mbox mbox)) then other_steps p steps else Some Mbox

-- none is
abbrev pub AreSame : Position → Bytes → Option Bytes → Type 0
AreSame p mbox steps = other_of p mbox steps ≡ None

-- the readers were passed over the bytes that were followed of these files
pub record IsPassedOver (mbox : Bytes) (steps : Option Bytes) (f : Following) : Type 0 where
  pub mbox_stands : StandsFor f.mbox.trace (take f.keeper.state.position.mbox mbox)
  pub steps_stand : IfSome steps (λ bytes. StandsFor f.lines.trace (take f.keeper.state.position.steps bytes))

-- the inputs are the same, or this one is another
abbrev pub GivesOther : Result Unit RunFault → Option Input → Type 0
GivesOther (Ok _) other = other ≡ None
GivesOther (Err (fault.OtherFiles input)) other = other ≡ Some input
GivesOther (Err why) other = ⊥
