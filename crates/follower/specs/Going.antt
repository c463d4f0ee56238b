-- Changes of a feed that are made one after the other.
use Rattle.std.specs.Prelude.{◌≡◌, true, false, List, [], ◌∷◌, ⊤}
use Rattle.follower.specs.declared.fault.RunFault.{RunFault}
use Rattle.follower.specs.declared.fault.RunFault.TheVariants as fault
use Rattle.state_store.specs.States.{State}
use Rattle.keeper.specs.Keeping.{Keeping, is_refused}
use Rattle.tail_journal.specs.Pending.{with_change}
use Rattle.follower.specs.Feed.{Fed, Feed, BadLine, after_fed, ends, fed_first}

-- ---- one change

-- The first change has room, leads to the new state, and is pending. The others follow it.
pub record MakesFirst (old : Keeping) (feed : Feed) (new : Keeping) (others : Feed) : Type 0 where
  pub fed : Fed
  pub first : feed ≡ fed_first fed others
  pub room : is_refused old.state fed.change ≡ false
  pub state : new.state ≡ after_fed old.state fed
  pub pending : new.pending ≡ with_change old.pending fed.change

-- the first change has no room
pub record RefusesFirst (s : State) (feed : Feed) : Type 0 where
  pub fed : Fed
  pub others : Feed
  pub first : feed ≡ fed_first fed others
  pub refused : is_refused s fed.change ≡ true

-- Why nothing more of a feed is made: its first change has no room, or it ends before a line that can't be followed.
abbrev pub StopsAt : RunFault → State → Feed → Type 0
StopsAt fault.Full s feed = RefusesFirst s feed
StopsAt (fault.Steps number) s feed = feed ≡ ends (BadLine number)
StopsAt _ s feed = ⊤

-- ---- all changes

abbrev pub fed_all : List Fed → Feed → Feed
fed_all [] others = others
fed_all (f ∷ fs) others = fed_first f (fed_all fs others)

abbrev pub after_feds : State → List Fed → State
after_feds s [] = s
after_feds s (f ∷ fs) = after_feds (after_fed s f) fs

-- each has room where it comes
abbrev pub AreMade : State → List Fed → Type 0
AreMade s [] = ⊤
AreMade s (f ∷ fs) = (is_refused s f.change ≡ false) × AreMade (after_fed s f) fs

-- The first changes are made, and lead to the new state, from which the others come.
pub record Leads (old : State) (feed : Feed) (new : State) (others : Feed) : Type 0 where
  pub done : List Fed
  pub first : feed ≡ fed_all done others
  pub made : AreMade old done
  pub state : new ≡ after_feds old done
