-- A keeper as contracts see it, and how what it holds goes on from what is kept.
use Rattle.std.specs.Prelude.{◌≡◌, ◌+◌, ◌==◌, Bool, ◌||◌, List, Ok}
use Rattle.outside.specs.Places.{Places}
use Rattle.mailbox_model.specs.declared.change.Change.{Change}
use Rattle.mailbox_model.specs.Mailbox.{after, after_all, full, AreAllowed}
use Rattle.state_image.specs.declared.position.Position.{Position}
use Rattle.state_store.specs.States.{State, max_changes}
use Rattle.state_store.specs.Stands.{stands}
use Rattle.state_store.specs.declared.store.Store.{Store}
use Rattle.tail_journal.specs.Pending.{PendingChanges, ArePending}

-- the state after all changes, those of them that are not lasting yet, what is known of the shelf, and whether the engine is stale
pub record Keeping : Type 0 where
  pub state : State
  pub pending : PendingChanges
  pub store : Store
  pub stale : Bool

-- a change is made, and this is the position after it
abbrev pub after_change : State → Change → Position → State
after_change s change position = record { mailbox = after s.mailbox change; position = position }

-- the count has no room for a change, or the mailbox none
abbrev pub is_refused : State → Change → Bool
is_refused s change = (s.position.count == max_changes) || full s.mailbox change

-- The pending changes lead from the state that stands to that of the keeper.
pub record IsKept (k : Keeping) (places : Places) : Type 0 where
  pub committed : State
  pub is : stands k.state.mailbox.me places ≡ Ok committed
  pub held : List Change
  pub pending : ArePending k.pending held
  pub allowed : AreAllowed committed.mailbox held
  pub mailbox : k.state.mailbox ≡ after_all committed.mailbox held
  pub count : committed.position.count + k.pending.count ≡ k.state.position.count
  pub position : k.pending.count ≡ 0 → committed ≡ k.state
