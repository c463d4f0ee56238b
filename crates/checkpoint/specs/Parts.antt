-- The parts of an opening and of a save.
use Rattle.std.specs.Prelude.{◌≡◌, ◌≤◌, ℕ, ◌+◌, List, length, take, drop, true, ◌&&◌, nat_le, ◌==◌, if◌then◌else◌, slice_index_or, Option, None, Some}
use Rattle.std.specs.Int.{w64, from_be_bytes}
use Rattle.outside.specs.declared.shelf.Place.{Place}
use Rattle.outside.specs.Places.{Places, content}
use Rattle.checkpoint.specs.Slots.{Slot, slot_of, slot_after, chosen_by, chosen_of, next_place, other_place, is_closed}
use Rattle.checkpoint.specs.Saves.{AreSettled}
use Rattle.checkpoint.specs.declared.front.Front.{Front}
use Rattle.checkpoint.specs.declared.front.Stated.{Stated}

-- ---- opening

-- the number and the length that are in the first 17 bytes of a place with so many bytes, where its slot is open
abbrev pub stated_in : ℕ → List ℕ → Option Stated
stated_in size head =
    let len = from_be_bytes w64 (take 8 (drop 9 head)) in
    if nat_le 17 (length head) && (slice_index_or head 0 0 == 1) && nat_le (17 + len) size then Some (record { number = from_be_bytes w64 (take 8 (drop 1 head)); length = len }) else None

-- a slot with a number and a length that its place states
abbrev pub with_image : List ℕ → Stated → Slot
with_image bytes stated = record { number = stated.number; image = take stated.length (drop 17 bytes) }

abbrev pub IsStated : List ℕ → Option Stated → Type 0
IsStated bytes None = slot_of bytes ≡ None
IsStated bytes (Some stated) = (slot_of bytes ≡ Some (with_image bytes stated)) × (17 + stated.length ≤ length bytes)

-- what the first bytes of a place say of it
pub record IsFront (front : Front) (bytes : List ℕ) : Type 0 where
  pub closed : front.closed ≡ is_closed bytes
  pub slot : IsStated bytes front.slot

-- of two that are stated
abbrev pub chosen_stated : Option Stated → Option Stated → Option (Place × Stated)
chosen_stated a b = chosen_by (λ (stated : Stated). stated.number) a b

-- the chosen slot, as its place states it
abbrev pub HasChosen : Places → Option (Place × Stated) → Type 0
HasChosen places None = chosen_of places ≡ None
HasChosen places (Some p) = (chosen_of places ≡ Some (p.0, with_image (content places p.0) p.1)) × (17 + p.1.length ≤ length (content places p.0))

-- ---- saving

-- the gate stays
abbrev pub SameGate : List ℕ → List ℕ → Type 0
SameGate old new = take 1 new ≡ take 1 old

-- the chosen slot and T are as before
pub record SameChosen (old new : Places) : Type 0 where
  pub t : new.t ≡ old.t
  pub slot : chosen_of new ≡ chosen_of old

-- A and B are settled, and the next slot goes to this place
pub record IsTarget (place : Place) (outcomes : Places → Type 0) (places : Places) : Type 0 where
  pub settled : AreSettled places outcomes
  pub is : next_place (chosen_of places) ≡ place

-- a closed gate, and after it this slot
pub record IsReady (saved : Slot) (bytes : List ℕ) : Type 0 where
  pub closed : is_closed bytes ≡ true
  pub after : slot_after (drop 1 bytes) ≡ Some saved

-- A and B are settled, with the same chosen slot
pub record StaysChosen (place : Place) (outcomes : Places → Type 0) (old new : Places) : Type 0 where
  pub settled : AreSettled new outcomes
  pub same : chosen_of new ≡ chosen_of old
  pub other : content new (other_place place) ≡ content old (other_place place)

-- A and B are settled, with this chosen slot
pub record IsChosen (place : Place) (saved : Slot) (outcomes : Places → Type 0) (old new : Places) : Type 0 where
  pub settled : AreSettled new outcomes
  pub is : chosen_of new ≡ Some (place, saved)
  pub other : content new (other_place place) ≡ content old (other_place place)
