-- What became of the files and of the answer, before a line is put.
use Rattle.std.specs.Prelude.{◌≡◌, ◌≤◌, ◌<◌, ℕ, length, [], None, Some, Result, Ok, Err, ⊤}
use Rattle.std.specs.Io.KnownBytes.{Appends}
use Rattle.std.specs.declared.option.Option.{Option}
use Rattle.outside.specs.Bytes.{AppendsPrefix}
use Rattle.outside.specs.Moments.{IsKnown}
use Rattle.outside.specs.Places.{Places}
use Rattle.outside.specs.declared.shelf.Place.{Place}
use Rattle.mailbox_model.specs.Lists.{Bytes}
use Rattle.source_buffer.specs.Buffered.{Buffered, BufferTakes}
use Rattle.state_store.specs.States.{State}
use Rattle.state_store.specs.Stands.{stands}
use Rattle.keeper.specs.Opening.{IsOthers}
use Rattle.follower.specs.declared.fault.Input.TheVariants.{Mbox}
use Rattle.follower.specs.declared.fault.RunFault.{RunFault}
use Rattle.follower.specs.declared.fault.RunFault.TheVariants as fault
use Rattle.follower.specs.Committing.{AllStand}
use Rattle.follower.specs.Feed.{Files, mails_left}
use Rattle.follower.specs.Following.{Following, StandsInMbox, mails_ahead}
use Rattle.follower.specs.Reached.{Reached, Full, BadStep}
use Rattle.follow.specs.declared.status.Refusal.{Refusal}
use Rattle.follow.specs.declared.status.Refusal.TheVariants as refusal
use Rattle.follow.specs.Outcome.{Given, KeepsAll, followed}

-- Where the answer should be this: at Ok it was put whole, and at Write a prefix of it. Every other refusal but those of
-- devices and of memory is the one that it gives.
abbrev pub Puts : Result Bytes Refusal → Option Bytes → Option Bytes → Result Unit Refusal → Type 0
Puts (Ok text) old new (Ok _) = Appends old new text
Puts (Ok text) old new (Err refusal.Write) = AppendsPrefix old new text
Puts answer old new (Ok _) = ⊥
Puts answer old new (Err refusal.Memory) = ⊤
Puts answer old new (Err (refusal.Read input)) = ⊤
Puts answer old new (Err (refusal.Endless input)) = ⊤
Puts answer old new (Err refusal.Disk) = ⊤
Puts answer old new (Err refusal.Write) = ⊥
Puts answer old new (Err why) = answer ≡ Err why

-- ---- opening

-- What is opened is what stands, for this address, and the mbox was passed over up to its position.
pub record Begun (me bytes : Bytes) (stand : Result State (Place × ℕ)) (f : Following) (left : Option Bytes) (seen : Option Places) : Type 0 where
  pub stand_is : stand ≡ Ok f.keeper.state
  pub own : f.keeper.state.mailbox.me ≡ me
  pub within : f.keeper.state.position.mbox ≤ length bytes
  pub rest : Bytes
  pub left_is : left ≡ Some rest
  pub ahead : mails_ahead f rest ≡ mails_left f.keeper.state.position bytes
  pub place : f.mbox.place ≡ f.keeper.state.position.mbox
  pub mbox_stands : (files : Files) → files.mbox ≡ bytes → StandsInMbox files f rest
  pub known : IsKnown seen (λ places. stands me places ≡ Ok f.keeper.state)

-- the mbox ends before the position of the state that stands
pub record FallsShort (me bytes : Bytes) (stand : Result State (Place × ℕ)) (outcomes : Places → Type 0) : Type 0 where
  pub state : State
  pub stand_is : stand ≡ Ok state
  pub own : state.mailbox.me ≡ me
  pub short : length bytes < state.position.mbox
  pub each : AllStand me state outcomes

abbrev pub BeginFails : RunFault → Bytes → Bytes → Result State (Place × ℕ) → (Places → Type 0) → Type 0
BeginFails (fault.Read input) me bytes stand outcomes = ⊤
BeginFails (fault.Endless input) me bytes stand outcomes = ⊤
BeginFails (fault.Short Mbox) me bytes stand outcomes = FallsShort me bytes stand outcomes
BeginFails fault.Disk me bytes stand outcomes = ⊤
BeginFails (fault.Damaged place at) me bytes stand outcomes = stand ≡ Err (place, at)
BeginFails (fault.OtherMe other) me bytes stand outcomes =
    IsOthers me other stand × ((c : Places) → outcomes c → stands me c ≡ stand)
BeginFails fault.Memory me bytes stand outcomes = ⊤
BeginFails _ me bytes stand outcomes = ⊥

abbrev pub BeginGoes : Bytes → Bytes → Result State (Place × ℕ) → Result Following RunFault → Option Bytes → Option Places → (Places → Type 0) → Type 0
BeginGoes me bytes stand (Ok f) left seen outcomes = Begun me bytes stand f left seen
BeginGoes me bytes stand (Err why) left seen outcomes = BeginFails why me bytes stand outcomes

-- ---- following

-- why not all changes are made and kept, and what is kept then
abbrev pub FollowStops : RunFault → Given → (Places → Type 0) → Type 0
FollowStops (fault.Read input) g outcomes = ⊤
FollowStops (fault.Endless input) g outcomes = ⊤
FollowStops (fault.Short input) g outcomes = (followed g ≡ Err (refusal.Short input)) × KeepsAll g outcomes
FollowStops (fault.OtherFiles input) g outcomes = (followed g ≡ Err (refusal.OtherFiles input)) × KeepsAll g outcomes
FollowStops (fault.Steps number) g outcomes = (r : Reached) × (followed g ≡ Ok r) × (r.stop ≡ Some (BadStep number)) × KeepsAll g outcomes
FollowStops fault.Full g outcomes = (r : Reached) × (followed g ≡ Ok r) × (r.stop ≡ Some Full) × KeepsAll g outcomes
FollowStops fault.Disk g outcomes = ⊤
FollowStops (fault.Damaged place at) g outcomes = followed g ≡ Err (refusal.Damaged place at)
FollowStops (fault.OtherMe other) g outcomes = (followed g ≡ Err (refusal.OtherMe other g.me)) × KeepsAll g outcomes
FollowStops fault.Memory g outcomes = ⊤

-- The follower has made and kept all changes, or this is why not.
abbrev pub FollowGoes : Result Following RunFault → Given → (Places → Type 0) → Type 0
FollowGoes (Ok f) g outcomes = (followed g ≡ Ok (record { state = f.keeper.state; stop = None })) × KeepsAll g outcomes
FollowGoes (Err why) g outcomes = FollowStops why g outcomes

-- this state stands
abbrev pub IsState : State → Places → Type 0
IsState s places = stands s.mailbox.me places ≡ Ok s

-- ---- the bytes that were taken

-- so a buffer with this budget is that has taken nothing
abbrev pub untaken : ℕ → Buffered
untaken budget = record { held = []; taken = 0; budget = budget }

-- a buffer has taken some, beginning with none
abbrev pub Took : Option Bytes → Option Bytes → ℕ → Buffered → Type 0
Took before after budget b = (bytes : Bytes) × BufferTakes before after (untaken budget) b bytes
