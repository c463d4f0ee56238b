-- How the changes of a run are committed: whenever 256 are pending, and at the end.
use Rattle.std.specs.Prelude.{◌≡◌, ◌⊎◌, ◌≤◌, ℕ, ◌+◌, ◌*◌, length, take, drop, Option, Some, None, Result, Ok, Err, ⊤}
use Rattle.outside.specs.Places.{Places}
use Rattle.outside.specs.Moments.{IsKnown}
use Rattle.mailbox_model.specs.Lists.{Bytes}
use Rattle.state_store.specs.States.{State}
use Rattle.state_store.specs.Stands.{stands}
use Rattle.state_store.specs.Commits.{Fill, fill_of}
use Rattle.keeper.specs.Keeping.{Keeping}
use Rattle.follower.specs.declared.fault.RunFault.{RunFault}
use Rattle.follower.specs.declared.fault.RunFault.TheVariants as fault
use Rattle.follower.specs.declared.follower.Turned.{Turned}
use Rattle.follower.specs.declared.follower.Turned.TheVariants as turned
use Rattle.follower.specs.Feed.{Feed, Files, ends, End, last_fed}
use Rattle.follower.specs.Following.{Following, StandsInMbox, StandsInSteps, to_come}
use Rattle.follower.specs.Going.{AreMade, Leads, after_feds}
use Rattle.follower.specs.Reached.{Stop, Full, BadStep, committed_count, reached}
use Rattle.follower.specs.Spending.{Counts, RoseWithin, feds_cost, run_spends, spelled, spent_by, with_reads}

-- ---- what is committed

-- the state that a run commits last
abbrev pub committed : State → Feed → State
committed s feed = after_feds s (take (committed_count s feed) feed.changes)

-- the changes of whole commits, or all
abbrev pub IsWhole : ℕ → Feed → Type 0
IsWhole count feed = ((commits : ℕ) × (count ≡ 256 * commits)) ⊎ (count ≡ length feed.changes)

-- The state that stands is that after the first changes of a feed, which a run commits together.
pub record Prefix (start : State) (feed : Feed) (places : Places) : Type 0 where
  pub count : ℕ
  pub within : count ≤ length feed.changes
  pub whole : IsWhole count feed
  pub made : AreMade start (take count feed.changes)
  pub is : stands start.mailbox.me places ≡ Ok (after_feds start (take count feed.changes))

-- each crash outcome has this state
abbrev pub AllStand : Bytes → State → (Places → Type 0) → Type 0
AllStand me s outcomes = (c : Places) → outcomes c → stands me c ≡ Ok s

-- ---- a run on its way

-- where a run sets out: the state that stands, how full the store is, and what is counted there
pub record Outset : Type 0 where
  pub state : State
  pub fill : Fill
  pub counts : Counts

-- it sets out from what a keeper has
abbrev pub outset : Keeping → Counts → Outset
outset k now = record { state = k.state; fill = fill_of k.store; counts = now }

-- The first changes of a feed are made, and those of whole commits are kept. The others are still to come.
pub record Way (start : Outset) (feed others : Feed) (k : Keeping) (now : Counts) (places : Places) : Type 0 where
  pub leads : Leads start.state feed k.state others
  pub commits : ℕ
  pub split : length leads.done ≡ 256 * commits + k.pending.count
  pub is : stands start.state.mailbox.me places ≡ Ok (after_feds start.state (take (256 * commits) leads.done))
  pub pending : k.pending.bytes ≡ spelled (drop (256 * commits) leads.done)
  pub fill : fill_of k.store ≡ (spent_by start.state start.fill feed.changes commits).fill
  pub rose : RoseWithin start.counts (with_reads (feds_cost start.state leads.done) (spent_by start.state start.fill feed.changes commits).counts) now

-- the same over a shelf whose contents are known
pub record OnWay (start : Outset) (feed : Feed) (IsToCome : Feed → Type 0) (k : Keeping) (now : Counts) (seen : Option Places) : Type 0 where
  pub others : Feed
  pub to_come : IsToCome others
  pub known : IsKnown seen (Way start feed others k now)

-- what is still to come of an mbox, and of a steps file, whose bytes are known
pub record MailsToCome (files : Files) (f : Following) (mbox : Option Bytes) (feed : Feed) : Type 0 where
  pub bytes : Bytes
  pub told : mbox ≡ Some bytes
  pub stands : StandsInMbox files f bytes
  pub is : feed ≡ to_come files None f bytes None

pub record LinesToCome (files : Files) (last : Option ℕ) (f : Following) (mbox steps : Option Bytes) (feed : Feed) : Type 0 where
  pub bytes : Bytes
  pub lines : Bytes
  pub mbox_told : mbox ≡ Some bytes
  pub steps_told : steps ≡ Some lines
  pub mbox_stands : StandsInMbox files f bytes
  pub steps_stands : StandsInSteps files f lines
  pub is : feed ≡ to_come files last f bytes (Some lines)

-- the moment that comes last, where there is one
abbrev pub LastToCome : Option ℕ → Keeping → Feed → Type 0
LastToCome last k feed = feed ≡ last_fed last k.state.position

abbrev pub NothingToCome : Feed → Type 0
NothingToCome feed = feed ≡ ends End

-- ---- where a run comes to an end, or to none

-- no more is counted than all changes and commits of the run read and write
abbrev pub SpendsWithin : Outset → Feed → Counts → Type 0
SpendsWithin start feed now = RoseWithin start.counts (run_spends start.state start.fill feed) now

-- The changes come to no end, and each crash outcome has the state of whole commits.
pub record Halts (why : Stop) (start : State) (feed : Feed) (outcomes : Places → Type 0) : Type 0 where
  pub stop : (reached start feed).stop ≡ Some why
  pub each : AllStand start.mailbox.me (committed start feed) outcomes

abbrev pub HaltsAt : RunFault → State → Feed → (Places → Type 0) → Type 0
HaltsAt fault.Full start feed outcomes = Halts Full start feed outcomes
HaltsAt (fault.Steps number) start feed outcomes = Halts (BadStep number) start feed outcomes
HaltsAt _ start feed outcomes = ⊤

-- why a run comes to no end
pub record Stops (why : RunFault) (start : Outset) (feed : Feed) (now : Counts) (outcomes : Places → Type 0) : Type 0 where
  pub halts : HaltsAt why start.state feed outcomes
  pub spends : SpendsWithin start feed now

-- All changes are made, and each crash outcome has the state after them.
pub record Ends (start : Outset) (feed : Feed) (k : Keeping) (now : Counts) (outcomes : Places → Type 0) : Type 0 where
  pub all : reached start.state feed ≡ record { state = k.state; stop = None }
  pub each : AllStand start.state.mailbox.me (committed start.state feed) outcomes
  pub spends : SpendsWithin start feed now

-- ---- what a call of a run does

-- a commit leaves it on its way
abbrev pub CommitGoes : Result Unit RunFault → Outset → Feed → Feed → Keeping → Counts → Option Places → Type 0
CommitGoes (Ok _) start feed others k now seen = IsKnown seen (Way start feed others k now)
CommitGoes (Err why) start feed others k now seen = SpendsWithin start feed now

-- A round makes the next change, or it has all but the last moment, or this is why it comes to no end.
abbrev pub RoundGoes : Option ℕ → Result Turned RunFault → Outset → Feed → (Feed → Type 0) → Keeping → Counts → Option Places → (Places → Type 0) → Type 0
RoundGoes last (Ok turned.Applied) start feed IsToCome k now seen outcomes = OnWay start feed IsToCome k now seen
RoundGoes last (Ok turned.End) start feed IsToCome k now seen outcomes = OnWay start feed (LastToCome last k) k now seen
RoundGoes last (Err why) start feed IsToCome k now seen outcomes = Stops why start feed now outcomes

-- All changes but the last moment are made, or this is why they come to no end.
abbrev pub AllGo : Option ℕ → Result Unit RunFault → Outset → Feed → Keeping → Counts → Option Places → (Places → Type 0) → Type 0
AllGo last (Ok _) start feed k now seen outcomes = OnWay start feed (LastToCome last k) k now seen
AllGo last (Err why) start feed k now seen outcomes = Stops why start feed now outcomes

-- the last moment is made too, where there is one
abbrev pub LastGoes : Result Unit RunFault → Outset → Feed → Keeping → Counts → Option Places → (Places → Type 0) → Type 0
LastGoes (Ok _) start feed k now seen outcomes = OnWay start feed NothingToCome k now seen
LastGoes (Err why) start feed k now seen outcomes = Stops why start feed now outcomes

-- all that is made is committed
abbrev pub EndGoes : Result Unit RunFault → Outset → Feed → Keeping → Counts → (Places → Type 0) → Type 0
EndGoes (Ok _) start feed k now outcomes = Ends start feed k now outcomes
EndGoes (Err why) start feed k now outcomes = Stops why start feed now outcomes
