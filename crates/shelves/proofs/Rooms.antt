-- The rooms of the places stay.
use Rattle.std.proofs.Common.{◌≡◌, ℕ, ◌∙◌, ap}
use Rattle.outside.specs.declared.shelf.Place.{Place}
use Rattle.outside.specs.declared.shelf.Place.TheVariants.{A, B, T}
use Rattle.shelves.specs.declared.file.File.{File}
use Rattle.shelves.specs.declared.files.Files.{Files}
use Rattle.shelves.specs.Kept.{HaveRooms, OneChanges}

-- a change that leaves the room of a place
pub rooms_stay : (place : Place) (P : File → File → Type 0) (room : ℕ) (old new : Files) → ((f g : File) → P f g → g.room ≡ f.room) → OneChanges place P old new → HaveRooms room old → HaveRooms room new
rooms_stay A P room old new stays h r = record { a = stays old.a new.a h.0 ∙ r.a; b = ap (λ (f : File). f.room) h.1 ∙ r.b; t = ap (λ (f : File). f.room) h.2 ∙ r.t }
rooms_stay B P room old new stays h r = record { a = ap (λ (f : File). f.room) h.0 ∙ r.a; b = stays old.b new.b h.1 ∙ r.b; t = ap (λ (f : File). f.room) h.2 ∙ r.t }
rooms_stay T P room old new stays h r = record { a = ap (λ (f : File). f.room) h.0 ∙ r.a; b = ap (λ (f : File). f.room) h.1 ∙ r.b; t = stays old.t new.t h.2 ∙ r.t }
