-- What is known of a shelf of files.
use Rattle.std.specs.Prelude.{◌≡◌, ◌⊎◌, ℕ, List, ⊤}
use Rattle.std.specs.declared.option.Option.{Option}
use Rattle.outside.specs.declared.shelf.Place.{Place}
use Rattle.outside.specs.declared.shelf.Place.TheVariants.{A, B, T}
use Rattle.outside.specs.Causes.{Rose}
use Rattle.shelves.specs.declared.place_file.PlaceFile.{PlaceFile}
use Rattle.shelves.specs.declared.place_file.PlaceFile.TheVariants.{Unopened, Open, Absent, Broken}
use Rattle.shelves.specs.declared.file_shelf.PlaceFiles.{PlaceFiles}
use Rattle.shelves.specs.declared.file_shelf.PlaceNames.{PlaceNames}
use Rattle.shelves.specs.declared.file_shelf.FileShelf.{FileShelf}
use Rattle.shelves.specs.Folder.{IsNamed, emptied}

-- what a file holds, where it is known: kept is what the folder has by its name
abbrev pub content_of : {F : Type 0} → (F → Option (List ℕ)) → Option (List ℕ) → PlaceFile F → Option (List ℕ)
content_of holds kept Unopened = kept
content_of holds kept (Open file) = holds file
content_of holds kept Absent = emptied kept
content_of holds kept Broken = kept

-- where it is open, it was opened or made by this name
abbrev pub IsOpenedBy : {F : Type 0} → (F → Option (List ℕ)) → List ℕ → PlaceFile F → Type 0
IsOpenedBy name_of name (Open file) = IsNamed name (name_of file)
IsOpenedBy name_of name _ = ⊤

-- where it is open, it holds what it held at its last sync
abbrev pub IsSynced : {F : Type 0} → (F → Option (List ℕ)) → (F → Option (List ℕ)) → PlaceFile F → Type 0
IsSynced synced holds (Open file) = synced file ≡ holds file
IsSynced synced holds _ = ⊤

-- why a call on a file failed: the folder did, or the file can't be opened
abbrev pub FailsFor : {F : Type 0} → ℕ → ℕ → PlaceFile F → Type 0
FailsFor before now file = Rose before now ⊎ (file ≡ Broken)

-- the file of the place
abbrev pub file_of : {F : Type 0} → Place → PlaceFiles F → PlaceFile F
file_of A files = files.a
file_of B files = files.b
file_of T files = files.t

-- the name of the place
abbrev pub name_at : Place → PlaceNames → List ℕ
name_at A names = names.a.now
name_at B names = names.b.now
name_at T names = names.t.now

-- the file of the place is absent so far
abbrev pub IsAbsent : {F : Type 0} → Place → PlaceFiles F → Type 0
IsAbsent place files = file_of place files ≡ Absent

-- it is there and can't be opened
abbrev pub IsBroken : {F : Type 0} → Place → PlaceFiles F → Type 0
IsBroken place files = file_of place files ≡ Broken

-- the files of the other two places stay as they are
abbrev pub OtherFilesStay : {F : Type 0} → Place → PlaceFiles F → PlaceFiles F → Type 0
OtherFilesStay A old new = (new.b ≡ old.b) × (new.t ≡ old.t)
OtherFilesStay B old new = (new.a ≡ old.a) × (new.t ≡ old.t)
OtherFilesStay T old new = (new.a ≡ old.a) × (new.b ≡ old.b)

-- what the file of the place holds, where it is known
abbrev pub content_at : {D F : Type 0} → (D → List ℕ → Option (List ℕ)) → (F → Option (List ℕ)) → Place → FileShelf D F
    → Option (List ℕ)
content_at kept holds place shelf =
    content_of holds (kept shelf.folder (name_at place shelf.names)) (file_of place shelf.files)

-- where it is open, it was opened or made by the name of the place
abbrev pub HasItsName : {D F : Type 0} → (F → Option (List ℕ)) → Place → FileShelf D F → Type 0
HasItsName name_of place shelf = IsOpenedBy name_of (name_at place shelf.names) (file_of place shelf.files)

-- where it is open, what was synced is all that it holds
abbrev pub IsSyncedAt : {D F : Type 0} → (F → Option (List ℕ)) → (F → Option (List ℕ)) → Place → FileShelf D F → Type 0
IsSyncedAt synced holds place shelf = IsSynced synced holds (file_of place shelf.files)

-- why a call on the place failed: the folder did, or the file can't be opened
abbrev pub FailsAt : {D F : Type 0} → (D → ℕ) → Place → FileShelf D F → FileShelf D F → Type 0
FailsAt faults place old new = FailsFor (faults old.folder) (faults new.folder) (file_of place new.files)
