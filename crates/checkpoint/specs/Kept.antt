-- What the chosen slot keeps, or where it is damaged.
use Rattle.std.specs.Prelude.{ℕ, ◌+◌, length, nat_lt, ◌==◌, if◌then◌else◌, Option, None, Some, option_map, Result, Ok, Err}
use Rattle.outside.specs.declared.shelf.Place.{Place}
use Rattle.outside.specs.Places.{Places}
use Rattle.outside.specs.StateFaults.{Gives}
use Rattle.outside.specs.declared.faults.StateFault.{StateFault}
use Rattle.mailbox_model.specs.Mailbox.{Mailbox}
use Rattle.box_state.specs.Kept.{Kept}
use Rattle.state_image.specs.declared.fault.ImageFault.{ImageFault}
use Rattle.state_image.specs.declared.fault.ImageFault.TheVariants.{Version, Malformed, Memory}
use Rattle.state_image.specs.declared.position.Position.{Position}
use Rattle.state_image.specs.Images.{image_of}
use Rattle.checkpoint.specs.Slots.{Slot, chosen_of}

-- the most bytes that the image of a slot may have
abbrev pub max_image : ℕ
max_image = 1073741824

-- What an image says in a slot with a number, or the offset in the place at which the slot is damaged. Of bytes alone an
-- image is never out of memory.
abbrev pub numbered : ℕ → Result (Mailbox × Position) ImageFault → Result (Mailbox × Position) ℕ
numbered number (Ok kept) = if kept.1.count == number then Ok kept else Err 1
numbered number (Err Version) = Err 17
numbered number (Err (Malformed at)) = Err (17 + at)
numbered number (Err Memory) = Err 17

-- the mailbox and the position that a slot keeps, or the offset in its place at which it is damaged
abbrev pub slot_kept : Slot → Result (Mailbox × Position) ℕ
slot_kept slot = if nat_lt max_image (length slot.image) then Err 9 else numbered slot.number (image_of slot.image)

-- the same in a place
abbrev pub at_place : Place → Result (Mailbox × Position) ℕ → Result (Option (Mailbox × Position)) (Place × ℕ)
at_place place (Ok kept) = Ok (Some kept)
at_place place (Err at) = Err (place, at)

abbrev pub chosen_kept : Option (Place × Slot) → Result (Option (Mailbox × Position)) (Place × ℕ)
chosen_kept None = Ok None
chosen_kept (Some p) = at_place p.0 (slot_kept p.1)

-- what is kept in the slots: nothing where none is open
abbrev pub kept_of : Places → Result (Option (Mailbox × Position)) (Place × ℕ)
kept_of places = chosen_kept (chosen_of places)

-- the number of the chosen slot, where there is one
abbrev pub number_of : Option (Place × Slot) → Option ℕ
number_of None = None
number_of (Some p) = Some p.1.number

-- the count of what was kept, where anything was
abbrev pub count_of : Option (Kept × Position) → Option ℕ
count_of None = None
count_of (Some read) = Some read.1.count

-- what contracts see of what is kept
abbrev pub seen_kept : Option (Kept × Position) → Option (Mailbox × Position)
seen_kept kept = option_map (λ (read : Kept × Position). (read.0.mailbox, read.1)) kept

-- what is answered, seen by view, is what is kept
abbrev pub GivesKept : {X : Type 0} → (X → Option (Kept × Position)) → Result X StateFault → Result (Option (Mailbox × Position)) (Place × ℕ) → Type 0
GivesKept view result kept = Gives (λ x. seen_kept (view x)) result kept
