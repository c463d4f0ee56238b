-- Changes that are not lasting yet, in their written form.
use Rattle.std.specs.Prelude.{◌≡◌, ◌⊎◌, ℕ, ◌+◌, ◌≤◌, List, [], ◌++◌, length, drop}
use Rattle.std.specs.List.{AllByRecursion}
use Rattle.mailbox_model.specs.declared.change.Change.{Change}
use Rattle.state_image.specs.Changes.{change_spelled, FitsChange}
use Rattle.tail_journal.specs.Spelling.{AreSpelled, group_head}

-- how many they are, and their spelling one after the other
pub record PendingChanges : Type 0 where
  pub count : ℕ
  pub bytes : List ℕ

abbrev pub none_pending : PendingChanges
none_pending = record { count = 0; bytes = [] }

abbrev pub with_change : PendingChanges → Change → PendingChanges
with_change p change = record { count = p.count + 1; bytes = p.bytes ++ change_spelled change }

-- the pending changes are these, and each has a spelling
pub record ArePending (p : PendingChanges) (held : List Change) : Type 0 where
  pub spelled : AreSpelled p.count p.bytes held
  pub fits : AllByRecursion FitsChange held

-- they are changes, and few enough for one group
pub record AreWritten (p : PendingChanges) : Type 0 where
  pub held : List Change
  pub are : ArePending p held
  pub few : p.count ≤ 256

-- bytes that are room for the head of a group and then so many changes, or nothing where there is none
pub record HoldsPending (count : ℕ) (group : List ℕ) : Type 0 where
  pub written : AreWritten (record { count = count; bytes = drop group_head group })
  pub head : (group ≡ []) ⊎ (group_head ≤ length group)
  pub some : 1 ≤ count → group_head ≤ length group
