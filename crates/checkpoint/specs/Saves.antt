-- What a save leaves of the slots.
use Rattle.std.specs.Prelude.{◌≡◌, ◌⊎◌, ◌<◌, ℕ, Option, None, Some, ⊤}
use Rattle.outside.specs.declared.shelf.Place.{Place}
use Rattle.outside.specs.declared.shelf.Place.TheVariants.{A, B}
use Rattle.outside.specs.Places.{Places}
use Rattle.outside.specs.Moments.{IsSettled}
use Rattle.checkpoint.specs.Slots.{Slot, chosen_of, next_place}

-- each crash outcome has in A and in B what a read gives
pub record AreSettled (places : Places) (outcomes : Places → Type 0) : Type 0 where
  pub a : IsSettled A places outcomes
  pub b : IsSettled B places outcomes

-- the number of the chosen slot is smaller
abbrev pub IsAbove : ℕ → Option (Place × Slot) → Type 0
IsAbove number None = ⊤
IsAbove number (Some p) = p.1.number < number

-- The chosen slot is the one of before, or the new one in the place that was not chosen; T is as before.
pub record SameOrNew (saved : Slot) (old new : Places) : Type 0 where
  pub t : new.t ≡ old.t
  pub slot : (chosen_of new ≡ chosen_of old) ⊎ (chosen_of new ≡ Some (next_place (chosen_of old), saved))

-- The chosen slot is the new one, in the place that was not chosen.
abbrev pub IsNew : Slot → Places → Places → Type 0
IsNew saved old new = chosen_of new ≡ Some (next_place (chosen_of old), saved)
