-- What a commit leaves of the state.
use Rattle.std.specs.Prelude.{◌≡◌, ◌⊎◌, ◌≤◌, ℕ, ◌+◌, ◌-◌, Bool, true, not, ◌||◌, nat_lt, if◌then◌else◌, List, length, Ok, Some}
use Rattle.outside.specs.Places.{Places}
use Rattle.mailbox_model.specs.declared.change.Change.{Change}
use Rattle.mailbox_model.specs.Lists.{Bytes}
use Rattle.mailbox_model.specs.Mailbox.{after_all, AreAllowed}
use Rattle.state_image.specs.Images.{image, cards_in}
use Rattle.state_image.specs.declared.position.Position.{Position}
use Rattle.checkpoint.specs.Slots.{chosen_of}
use Rattle.checkpoint.specs.Saves.{IsAbove}
use Rattle.checkpoint.specs.Kept.{number_of}
use Rattle.tail_journal.specs.Groups.{Reading}
use Rattle.tail_journal.specs.Spelling.{Batch, IsBatch, AreSpelled, group_spelled, group_head}
use Rattle.tail_journal.specs.Tails.{ReadsAll}
use Rattle.state_store.specs.States.{State}
use Rattle.state_store.specs.Stands.{stands}
use Rattle.state_store.specs.declared.store.Store.{Store}

-- the most bytes that the tail may have
abbrev pub max_tail : ℕ
max_tail = 8388608

-- how full a store is: whether a slot is chosen, and how many bytes the tail has
pub record Fill : Type 0 where
  pub chosen : Bool
  pub tail : ℕ

abbrev pub fill_of : Store → Fill
fill_of store = record { chosen = store.chosen; tail = store.tail.size }

-- A checkpoint falls due where no slot is chosen, or where the tail would have more bytes than it may with the group of
-- changes that have so many bytes.
abbrev pub falls_due : Fill → ℕ → Bool
falls_due fill size = not fill.chosen || nat_lt max_tail (fill.tail + (group_head + size))

-- after a commit of changes that have so many bytes: a checkpoint clears the tail
abbrev pub fill_with : Fill → ℕ → Fill
fill_with fill size =
    if falls_due fill size then record { chosen = true; tail = 0 } else record { chosen = fill.chosen; tail = fill.tail + (group_head + size) }

-- ---- what a commit costs

-- It leads to this state by changes that have so many bytes. For an image it reads each kept card once, and for a group none.
abbrev pub commit_reads : Fill → ℕ → State → ℕ
commit_reads fill size s = if falls_due fill size then cards_in s.mailbox else 0

-- It writes an image and 18 bytes more, or a group, with what it has before its changes, and one byte more.
abbrev pub commit_writes : Fill → ℕ → State → ℕ
commit_writes fill size s = if falls_due fill size then length (image s.mailbox s.position) + 18 else group_head + 1 + size

-- ---- what it leaves

-- these changes, with the position after them
abbrev pub batch_to : Position → List Change → Batch
batch_to position changes = record { base = position.count - length changes; position = position; changes = changes }

-- The batch leads from the state that stands to this one: it goes on from the count, and its changes are allowed.
pub record LeadsTo (me : Bytes) (new : State) (places : Places) (batch : Batch) : Type 0 where
  pub committed : State
  pub is : stands me places ≡ Ok committed
  pub rules : IsBatch batch
  pub base : batch.base ≡ committed.position.count
  pub allowed : AreAllowed committed.mailbox batch.changes
  pub mailbox : new.mailbox ≡ after_all committed.mailbox batch.changes
  pub position : new.position ≡ batch.position

-- the group is the spelling of a batch that leads there
pub record Appends (me : Bytes) (new : State) (places : Places) (group : List ℕ) : Type 0 where
  pub batch : Batch
  pub text : group ≡ group_spelled batch
  pub leads : LeadsTo me new places batch

-- the state that stood before stands, or the new one
abbrev pub OldOrNew : Bytes → State → Places → Places → Type 0
OldOrNew me new before after = (stands me after ≡ stands me before) ⊎ (stands me after ≡ Ok new)

-- The number is greater than that of the chosen slot, and no smaller than the count to which T is read from that.
pub record IsLater (number : ℕ) (places : Places) : Type 0 where
  pub above : IsAbove number (chosen_of places)
  pub read : (count : ℕ) (r : Reading) → number_of (chosen_of places) ≡ Some count → ReadsAll count places.t r → r.count ≤ number

-- these bytes are the spelling of n changes that lead there
pub record Commits (me : Bytes) (new : State) (n : ℕ) (changes : List ℕ) (places : Places) : Type 0 where
  pub held : List Change
  pub spelled : AreSpelled n changes held
  pub leads : LeadsTo me new places (batch_to new.position held)

-- n changes with this spelling, and this position after them, make a batch
abbrev pub MakeBatch : Position → ℕ → List ℕ → Type 0
MakeBatch position n changes = (held : List Change) × AreSpelled n changes held × IsBatch (batch_to position held)
