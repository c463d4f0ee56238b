-- What a call makes of a place as it is kept in memory.
use Rattle.std.specs.Prelude.{◌≡◌, ◌≤◌, ℕ, List, length, take}
use Rattle.shelves.specs.declared.file.File.{File}
use Rattle.shelves.specs.declared.call.Crash.{Crash}
use Rattle.shelves.specs.declared.call.Crash.TheVariants.{Old, New, Ones}
use Rattle.shelves.specs.History.{over, ones_over}

pub record Writes (at : ℕ) (bytes : List ℕ) (old new : File) : Type 0 where
  pub inside : at ≤ length old.bytes.items
  pub now : new.bytes.items ≡ over at bytes old.bytes.items
  pub synced : new.synced.items ≡ old.synced.items
  pub ones : new.ones.items ≡ ones_over at (length bytes) old.ones.items
  pub room : new.room ≡ old.room

pub record Cuts (size : ℕ) (old new : File) : Type 0 where
  pub now : new.bytes.items ≡ take size old.bytes.items
  pub synced : new.synced.items ≡ old.synced.items
  pub ones : new.ones.items ≡ old.ones.items
  pub room : new.room ≡ old.room

pub record Syncs (old new : File) : Type 0 where
  pub now : new.bytes.items ≡ old.bytes.items
  pub synced : new.synced.items ≡ old.bytes.items
  pub ones : new.ones.items ≡ old.bytes.items
  pub room : new.room ≡ old.room

abbrev pub file_pick : Crash → File → List ℕ
file_pick Old f = f.synced.items
file_pick New f = f.bytes.items
file_pick Ones f = f.ones.items
