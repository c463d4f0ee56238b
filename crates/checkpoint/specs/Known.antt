-- What `Slots` know.
use Rattle.std.specs.Prelude.{◌≡◌}
use Rattle.outside.specs.Places.{Places, content}
use Rattle.checkpoint.specs.Slots.{chosen_of, next_place, is_closed, other_place}
use Rattle.checkpoint.specs.Saves.{AreSettled}
use Rattle.checkpoint.specs.declared.slots.Slots.{Slots}

-- A and B are settled, and these are the place that the next slot goes to, its gate and the gate of the other place
pub record Knows (slots : Slots) (outcomes : Places → Type 0) (places : Places) : Type 0 where
  pub settled : AreSettled places outcomes
  pub next : next_place (chosen_of places) ≡ slots.next
  pub closed : is_closed (content places slots.next) ≡ slots.closed
  pub other_closed : is_closed (content places (other_place slots.next)) ≡ slots.other_closed
