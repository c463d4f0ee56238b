-- What a tail is, and what an append and a clear leave of it.
use Rattle.std.specs.Prelude.{◌≡◌, ◌⊎◌, ℕ, ◌+◌, List, [], ◌∷◌, ◌++◌, length, take, Ok}
use Rattle.outside.specs.declared.shelf.Place.TheVariants.{T}
use Rattle.outside.specs.Places.{Places}
use Rattle.outside.specs.Moments.{IsSettled}
use Rattle.mailbox_model.specs.declared.change.Change.{Change}
use Rattle.state_image.specs.Changes.{change_spelled}
use Rattle.tail_journal.specs.Frames.{total_size, frames}
use Rattle.tail_journal.specs.Groups.{Applied, Reading, nothing_more, reading}
use Rattle.tail_journal.specs.Spelling.{Batch, IsBatch, group_head, group_spelled, old_group_head}
use Rattle.tail_journal.specs.declared.tail.Tail.{Tail}

-- T is settled, and ends at the size of the tail
pub record IsTail (tail : Tail) (outcomes : Places → Type 0) (places : Places) : Type 0 where
  pub settled : IsSettled T places outcomes
  pub size : length places.t ≡ tail.size

-- a prefix of these bytes
pub record IsPrefix (bytes new : List ℕ) : Type 0 where
  pub size : ℕ
  pub is : new ≡ take size bytes

-- bytes, and after them either this group or what holds no group
pub record MayGrow (group bytes new : List ℕ) : Type 0 where
  pub more : List ℕ
  pub is : new ≡ bytes ++ more
  pub part : (frames more ≡ []) ⊎ (more ≡ group)

-- ---- a group more

-- changes one after the other from an offset on, each with its place
abbrev pub placed_changes : ℕ → List Change → List (ℕ × Change)
placed_changes at [] = []
placed_changes at (change ∷ more) = (at, change) ∷ placed_changes (at + length (change_spelled change)) more

-- what is applied of a batch that is spelled at an offset
abbrev pub read_back : ℕ → Batch → Applied
read_back at batch = record { position = batch.position; changes = placed_changes (at + group_head) batch.changes }

-- the same of a group of version 1
abbrev pub old_read_back : ℕ → Batch → Applied
old_read_back at batch = record { position = batch.position; changes = placed_changes (at + old_group_head) batch.changes }

-- the same groups, and this batch after them
abbrev pub with_last : Reading → Batch → Reading
with_last r batch = record { groups = r.groups ++ read_back r.end batch ∷ []; count = batch.position.count; end = r.end + length (group_spelled batch) }

-- From the count this is read, and reading ends at the end of the bytes.
pub record ReadsAll (count : ℕ) (bytes : List ℕ) (r : Reading) : Type 0 where
  pub is : reading count bytes ≡ Ok r
  pub end : r.end ≡ length bytes

-- the group is the spelling of a batch that goes on where this reading ends
pub record IsNext (group : List ℕ) (r : Reading) (batch : Batch) : Type 0 where
  pub rules : IsBatch batch
  pub text : group ≡ group_spelled batch
  pub base : batch.base ≡ r.count

-- From each count from which reading comes to the end, with the group's base as its count, the same groups are read as
-- before, or the same and the new one.
abbrev pub KeepsOrAdds : List ℕ → List ℕ → List ℕ → Type 0
KeepsOrAdds group old new = (count : ℕ) (r : Reading) (batch : Batch) → ReadsAll count old r → IsNext group r batch
    → (reading count new ≡ Ok r) ⊎ (reading count new ≡ Ok (with_last r batch))

-- and here the same and the new one, and reading comes to the end again
abbrev pub Adds : List ℕ → List ℕ → List ℕ → Type 0
Adds group old new = (count : ℕ) (r : Reading) (batch : Batch) → ReadsAll count old r → IsNext group r batch
    → ReadsAll count new (with_last r batch)

-- the written form of a group
pub record IsGroup (bytes : List ℕ) : Type 0 where
  pub batch : Batch
  pub rules : IsBatch batch
  pub text : bytes ≡ group_spelled batch

-- From this count each frame is skipped: nothing is applied, and there is no gap.
abbrev pub AppliesNothing : ℕ → List ℕ → Type 0
AppliesNothing count bytes = reading count bytes ≡ Ok (nothing_more (total_size (frames bytes)) count)
