-- The two slots, places A and B, and which of them is chosen.
use Rattle.std.specs.Prelude.{ℕ, Bool, false, not, ◌&&◌, List, [], ◌∷◌, ◌++◌, length, take, drop, Option, None, Some, if◌then◌else◌, ◌==◌, nat_lt, nat_le}
use Rattle.std.specs.Int.{w64, from_be_bytes, to_be_bytes}
use Rattle.outside.specs.declared.shelf.Place.{Place}
use Rattle.outside.specs.declared.shelf.Place.TheVariants.{A, B, T}
use Rattle.outside.specs.Places.{Places}

pub record Slot : Type 0 where
  pub number : ℕ
  pub image : List ℕ

-- what a slot has after its gate
unfoldable pub body_spelled : ℕ → List ℕ → List ℕ
body_spelled number image = to_be_bytes w64 number ++ to_be_bytes w64 (length image) ++ image

-- the slot after an open gate: a number, a length and as many bytes. What follows is not read.
unfoldable pub slot_after : List ℕ → Option Slot
slot_after rest =
    let size = from_be_bytes w64 (take 8 (drop 8 rest)) in
    if nat_le 16 (length rest) && nat_le size (length (drop 16 rest)) then Some (record { number = from_be_bytes w64 (take 8 rest); image = take size (drop 16 rest) }) else None

-- the slot in a place, where it is open: the gate is 1
abbrev pub slot_of : List ℕ → Option Slot
slot_of [] = None
slot_of (gate ∷ rest) = if gate == 1 then slot_after rest else None

-- a place has a gate, and it is closed
abbrev pub is_closed : List ℕ → Bool
is_closed [] = false
is_closed (gate ∷ rest) = not (gate == 1)

-- Of what A and B have the one with the greater number, and A's where these are equal.
abbrev pub chosen_by : {X : Type 0} → (X → ℕ) → Option X → Option X → Option (Place × X)
chosen_by number None None = None
chosen_by number (Some a) None = Some (A, a)
chosen_by number None (Some b) = Some (B, b)
chosen_by number (Some a) (Some b) = if nat_lt (number a) (number b) then Some (B, b) else Some (A, a)

-- the chosen one of the slots in A and in B that are open
abbrev pub chosen : Option Slot → Option Slot → Option (Place × Slot)
chosen a b = chosen_by (λ (slot : Slot). slot.number) a b

abbrev pub chosen_of : Places → Option (Place × Slot)
chosen_of places = chosen (slot_of places.a) (slot_of places.b)

-- the place of the other slot
abbrev pub other_place : Place → Place
other_place A = B
other_place B = A
other_place T = A

-- where the next slot goes: to the place that is not chosen, and to A where none is
abbrev pub next_place : {X : Type 0} → Option (Place × X) → Place
next_place None = A
next_place (Some p) = other_place p.0
