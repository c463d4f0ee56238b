-- What is kept in memory is what the events make.
use Rattle.std.specs.Prelude.{◌≡◌, ℕ}
use Rattle.outside.specs.declared.shelf.Place.{Place}
use Rattle.outside.specs.declared.shelf.Place.TheVariants.{A, B, T}
use Rattle.shelves.specs.declared.file.File.{File}
use Rattle.shelves.specs.declared.files.Files.{Files}
use Rattle.shelves.specs.History.{Content, Disk}

pub record Same (content : Content) (file : File) : Type 0 where
  pub now : file.bytes.items ≡ content.now
  pub synced : file.synced.items ≡ content.synced
  pub ones : file.ones.items ≡ content.ones

pub record AreKept (disk : Disk) (files : Files) : Type 0 where
  pub a : Same disk.a files.a
  pub b : Same disk.b files.b
  pub t : Same disk.t files.t

-- each has this room
pub record HaveRooms (room : ℕ) (files : Files) : Type 0 where
  pub a : files.a.room ≡ room
  pub b : files.b.room ≡ room
  pub t : files.t.room ≡ room

abbrev pub file_at : Place → Files → File
file_at A files = files.a
file_at B files = files.b
file_at T files = files.t

-- one of them changes so, and the others stay
abbrev pub OneChanges : Place → (File → File → Type 0) → Files → Files → Type 0
OneChanges A P old new = P old.a new.a × (new.b ≡ old.b) × (new.t ≡ old.t)
OneChanges B P old new = (new.a ≡ old.a) × P old.b new.b × (new.t ≡ old.t)
OneChanges T P old new = (new.a ≡ old.a) × (new.b ≡ old.b) × P old.t new.t
