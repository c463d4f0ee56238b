-- A follower as contracts see it: where it stands in its files, and what its turns make of them.
use Rattle.std.specs.Prelude.{◌≡◌, ◌⊎◌, ◌≤◌, ◌<◌, ℕ, ◌+◌, Bool, List, [], ◌∷◌, ◌++◌, Option, Some, None, option_map, Result, Ok, Err, ⊤, codes}
use Rattle.kit.specs.Moments.{last_moment}
use Rattle.mboxrd.specs.Mails.{Mail, mails_from}
use Rattle.mboxrd.specs.declared.fault.BoxFault.{BoxFault}
use Rattle.mboxrd.specs.declared.fault.BoxFault.TheVariants as of_box
use Rattle.source_buffer.specs.declared.fault.BufferFault.{BufferFault}
use Rattle.source_buffer.specs.declared.fault.BufferFault.TheVariants as of_lines
use Rattle.mboxrd.specs.Reading as mbox
use Rattle.steps_file.specs.Reading as steps
use Rattle.steps_file.specs.Lines.{ended_lines}
use Rattle.steps_file.specs.declared.step.Step.{Step}
use Rattle.steps_file.specs.declared.step.Step.TheVariants as step
use Rattle.mailbox_model.specs.declared.change.Change.{Change}
use Rattle.mailbox_model.specs.declared.change.Change.TheVariants.{Expunge, Seen, At}
use Rattle.mailbox_model.specs.Lists.{Bytes}
use Rattle.mailbox_model.specs.Mailbox.{Mailbox, after}
use Rattle.touched_chats.specs.Costs.{change_cost}
use Rattle.follower.specs.declared.fault.Input.{Input}
use Rattle.follower.specs.declared.fault.Input.TheVariants.{Mbox, Steps}
use Rattle.follower.specs.declared.fault.RunFault.{RunFault}
use Rattle.follower.specs.declared.fault.RunFault.TheVariants as fault
use Rattle.follower.specs.declared.follower.Turned.{Turned}
use Rattle.follower.specs.declared.follower.Turned.TheVariants as turned
use Rattle.state_image.specs.declared.position.Position.{Position}
use Rattle.state_store.specs.States.{State, max_changes}
use Rattle.keeper.specs.Keeping.{Keeping}
use Rattle.keeper.specs.declared.fault.KeepFault.{KeepFault}
use Rattle.keeper.specs.declared.fault.KeepFault.TheVariants as of_keeper
use Rattle.arrivals.specs.Arrivals.{arrival_of}
use Rattle.follower.specs.Feed.{Feed, Files, at_mail, coming, last_fed}
use Rattle.follower.specs.Going.{MakesFirst, StopsAt}
use Rattle.follower.specs.Spending.{next_cost}

-- the name of an input
abbrev pub input_name : Input → List ℕ
input_name Mbox = codes "mbox"
input_name Steps = codes "steps"

-- the mailbox with its kept state, the two readers of its files, and whether a call has failed
pub record Following : Type 0 where
  pub keeper : Keeping
  pub mbox : mbox.Reading
  pub lines : steps.Reading
  pub failed : Bool

-- the mails and the lines that come next, where its sources have this left
abbrev pub mails_ahead : Following → Bytes → List Mail
mails_ahead f left = mails_from (mbox.position f.mbox) (f.mbox.held ++ left)

abbrev pub lines_ahead : Following → Bytes → List (List ℕ)
lines_ahead f left = ended_lines (f.lines.held ++ left)

-- The changes that the files still give, where this is told of what the sources have left. The moment comes after the
-- lines.
abbrev pub to_come : Files → Option ℕ → Following → Bytes → Option Bytes → Feed
to_come files last f mbox steps = coming files last f.keeper.state (mails_ahead f mbox) (option_map (lines_ahead f) steps)

-- What the reader of the mbox holds, followed by what its source has left, is the mbox from its place on, and its trace
-- stands for what comes before.
pub record MboxReaderStands (file : Bytes) (r : mbox.Reading) (left : Bytes) : Type 0 where
  pub at : mbox.IsAt file left r
  pub traced : mbox.IsTraced file r

abbrev pub StandsInMbox : Files → Following → Bytes → Type 0
StandsInMbox files f left = MboxReaderStands files.mbox f.mbox left

-- the same of the steps file
pub record StepsReaderStands (file : Bytes) (r : steps.Reading) (left : Bytes) : Type 0 where
  pub at : steps.IsAt file left r
  pub traced : steps.IsTraced file r

abbrev pub StandsInSteps : Files → Following → Bytes → Type 0
StandsInSteps files f left = StepsReaderStands files.steps f.lines left

-- ---- why a file is not followed

abbrev pub keep_fault : KeepFault → RunFault
keep_fault of_keeper.Disk = fault.Disk
keep_fault (of_keeper.Damaged place at) = fault.Damaged place at
keep_fault (of_keeper.OtherMe other) = fault.OtherMe other
keep_fault of_keeper.Full = fault.Full
keep_fault of_keeper.Memory = fault.Memory

abbrev pub box_fault : BoxFault → RunFault
box_fault of_box.Read = fault.Read Mbox
box_fault of_box.Endless = fault.Endless Mbox
box_fault of_box.Memory = fault.Memory

abbrev pub lines_fault : BufferFault → RunFault
lines_fault of_lines.Read = fault.Read Steps
lines_fault of_lines.Endless = fault.Endless Steps

-- ---- a turn

-- The arrival of the next of these mails, or that there is none. The others are those from the new place on.
abbrev pub ArrivesNext : Following → List Mail → Option Change → Following → List Mail → Type 0
ArrivesNext old [] None new others = others ≡ []
ArrivesNext old (mail ∷ mails) (Some change) new others =
    (change ≡ arrival_of old.keeper.state.mailbox.next_uid mail) × (new.mbox.place ≡ mail.end) × (others ≡ mails)
ArrivesNext old mails change new others = ⊥

-- The change of a step, with the position after it, and the mails that are left then. The position after its line is
-- given, and the uid of the next arrival.
abbrev pub Makes : Files → Step → ℕ → Position → List Mail → Change × Position → List Mail → Type 0
Makes files step.Next uid p [] made others = ⊥
Makes files step.Next uid p (mail ∷ mails) made others = (made ≡ (arrival_of uid mail, at_mail files p mail)) × (others ≡ mails)
Makes files (step.Expunge n) uid p mails made others = (made ≡ (Expunge n, p)) × (others ≡ mails)
Makes files (step.Seen n) uid p mails made others = (made ≡ (Seen n, p)) × (others ≡ mails)
Makes files (step.At moment) uid p mails made others = (made ≡ (At moment, p)) × (others ≡ mails)

-- the moment of a step is one
abbrev pub MakesMoment : Step → Type 0
MakesMoment (step.At moment) = moment ≤ last_moment
MakesMoment _ = ⊤

-- where a line is refused, it takes the next mail and there is none
abbrev pub LacksMail : Step → ℕ → List Mail → RunFault → Type 0
LacksMail s number mails (fault.Steps line) = (s ≡ step.Next) × (mails ≡ []) × (line ≡ number)
LacksMail s number mails _ = ⊤

-- one change more is made and pending
pub record Adds (old new : Keeping) : Type 0 where
  pub count : new.state.position.count ≡ old.state.position.count + 1
  pub pending : new.pending.count ≡ old.pending.count + 1

abbrev pub TurnAdds : Keeping → Keeping → Turned → Type 0
TurnAdds old new turned.Applied = Adds old new
TurnAdds old new turned.End = new ≡ old

-- the count of changes is higher then, and not too high
abbrev pub Raises : Keeping → Keeping → Turned → Type 0
Raises old new turned.Applied = (old.state.position.count < new.state.position.count) × (new.state.position.count ≤ max_changes)
Raises old new turned.End = ⊤

-- where a turn made a change, this holds
abbrev pub OnApplied : Result Turned RunFault → Type 0 → Type 0
OnApplied (Ok turned.Applied) P = P
OnApplied _ P = ⊤

-- A turn makes the next change, so the others are to come after it; at the end there is none.
abbrev pub TurnGoes : Option ℕ → Result Turned RunFault → Following → Feed → Following → Feed → Type 0
TurnGoes last (Ok turned.Applied) old before new after = MakesFirst old.keeper before new.keeper after
TurnGoes last (Ok turned.End) old before new after =
    (before ≡ last_fed last old.keeper.state.position) × (new.keeper.state ≡ old.keeper.state)
TurnGoes last (Err why) old before new after = StopsAt why old.keeper.state before

-- Whatever the files tell, no more is read than some change costs, which is the one that is made, where one is.
abbrev pub ReadsForOne : Result Turned RunFault → Mailbox → Mailbox → ℕ → ℕ → Type 0
ReadsForOne (Ok turned.Applied) m n old new = (change : Change) × (n ≡ after m change) × (new ≤ old + change_cost m change)
ReadsForOne (Ok turned.End) m n old new = new ≡ old
ReadsForOne (Err why) m n old new = (change : Change) × (new ≤ old + change_cost m change)

-- A turn reads kept cards no more often than the next of these changes may cost, and at the end not at all.
abbrev pub TurnCosts : Result Turned RunFault → State → Feed → ℕ → ℕ → Type 0
TurnCosts (Ok turned.End) s before old new = new ≡ old
TurnCosts _ s before old new = new ≤ old + next_cost s before.changes

-- ---- a turn where the readers stand in the files, and where they stand after it

abbrev pub MailTurn : Files → Result Turned RunFault → Following → Bytes → Following → Bytes → Type 0
MailTurn files result old before new after = StandsInMbox files old before
    → TurnGoes None result old (to_come files None old before None) new (to_come files None new after None)
    × OnApplied result (StandsInMbox files new after)

abbrev pub MailCosts : Files → Result Turned RunFault → Following → Bytes → ℕ → ℕ → Type 0
MailCosts files result old before from to =
    StandsInMbox files old before → TurnCosts result old.keeper.state (to_come files None old before None) from to

abbrev pub LineTurn : Files → Option ℕ → Result Turned RunFault → Following → Bytes → Bytes → Following → Bytes → Bytes → Type 0
LineTurn files last result old mails_before before new mails_after after =
    StandsInMbox files old mails_before → StandsInSteps files old before
    → TurnGoes last result old (to_come files last old mails_before (Some before)) new (to_come files last new mails_after (Some after))
    × OnApplied result (StandsInMbox files new mails_after × StandsInSteps files new after)

abbrev pub LineCosts : Files → Option ℕ → Result Turned RunFault → Following → Bytes → Bytes → ℕ → ℕ → Type 0
LineCosts files last result old mails_before before from to = StandsInMbox files old mails_before → StandsInSteps files old before
    → TurnCosts result old.keeper.state (to_come files last old mails_before (Some before)) from to

-- an input gave a byte
abbrev pub HasTaken : Following → Type 0
HasTaken f = (1 ≤ f.mbox.taken) ⊎ (1 ≤ f.lines.taken)

-- a line was read, or the state is this one still
abbrev pub IsFedFrom : State → Following → Type 0
IsFedFrom s f = (1 ≤ f.lines.taken) ⊎ (f.keeper.state ≡ s)

-- Why a call is refused, beside what the files and the kept state say: a fault of a device that rose, or the budget of an
-- input that was taken. And whatever its inputs tell, an input is short only where it gave fewer bytes than were followed, a
-- line is refused only where the steps file gave as many bytes as that is its number, and a change has no room only where
-- this holds of it.
abbrev pub IsCause : (mbox_rose steps_rose shelf_rose filled : Type 0) → Following → RunFault → Type 0
IsCause mbox_rose steps_rose shelf_rose filled new (fault.Read Mbox) = mbox_rose
IsCause mbox_rose steps_rose shelf_rose filled new (fault.Read Steps) = steps_rose
IsCause mbox_rose steps_rose shelf_rose filled new (fault.Endless Mbox) = new.mbox.taken ≡ new.mbox.budget
IsCause mbox_rose steps_rose shelf_rose filled new (fault.Endless Steps) = new.lines.taken ≡ new.lines.budget
IsCause mbox_rose steps_rose shelf_rose filled new (fault.Short Mbox) = new.mbox.taken < new.keeper.state.position.mbox
IsCause mbox_rose steps_rose shelf_rose filled new (fault.Short Steps) = new.lines.taken < new.keeper.state.position.steps
IsCause mbox_rose steps_rose shelf_rose filled new (fault.Steps number) = number ≤ new.lines.taken
IsCause mbox_rose steps_rose shelf_rose filled new fault.Full = filled
IsCause mbox_rose steps_rose shelf_rose filled new fault.Disk = shelf_rose
IsCause mbox_rose steps_rose shelf_rose filled new _ = ⊤

-- a fault that a turn may have
abbrev pub IsTurnFault : RunFault → Type 0
IsTurnFault (fault.Read input) = ⊤
IsTurnFault (fault.Endless input) = ⊤
IsTurnFault (fault.Steps number) = ⊤
IsTurnFault fault.Full = ⊤
IsTurnFault fault.Memory = ⊤
IsTurnFault _ = ⊥

-- a fault that turns and commits may have
abbrev pub IsFollowFault : RunFault → Type 0
IsFollowFault fault.Disk = ⊤
IsFollowFault why = IsTurnFault why

-- a fault of what is kept and opened, or of memory
abbrev pub IsKeepFault : RunFault → Type 0
IsKeepFault fault.Disk = ⊤
IsKeepFault (fault.Damaged place at) = ⊤
IsKeepFault (fault.OtherMe other) = ⊤
IsKeepFault fault.Memory = ⊤
IsKeepFault _ = ⊥
