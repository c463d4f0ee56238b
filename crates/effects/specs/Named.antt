-- Who names an id.
use Rattle.std.specs.Prelude.{◌≡◌, Bool, not, if◌then◌else◌, List, [], map, filter, unwrap_or}
use Rattle.std.specs.List.{list_any}
use Rattle.std.specs.Ordering.{eq_by_cmp}
use Rattle.std.specs.Map.{lookup}
use Rattle.std.specs.Str.{bytes_eq}
use Rattle.lists.specs.Sorted.{insert_by}
use Rattle.card_type.specs.declared.card.Card.{Card}
use Rattle.card_type.specs.declared.spot.Spot.{Spot}
use Rattle.card_type.specs.Effects.{is_among, names}
use Rattle.card_type.specs.Spots.{spot_cmp}
use Rattle.mailbox_model.specs.Lists.{Bytes}
use Rattle.mailbox_model.specs.Present.{Placed, spot}
use Rattle.mailbox_model.specs.Rows.{naming}

-- the spots of the cards that name an id, in mail order
abbrev pub named : List (Bytes × List Spot) → Bytes → List Spot
named spots id = unwrap_or (lookup (bytes_eq id) spots) []

abbrev pub same_spot : Spot → Spot → Bool
same_spot = eq_by_cmp spot_cmp

abbrev pub without_spot : Spot → List Spot → List Spot
without_spot spot spots = filter (λ other. not (same_spot spot other)) spots

-- with a spot in its place in mail order, where it is not there yet
abbrev pub put_once : Spot → List Spot → List Spot
put_once spot spots = if list_any (same_spot spot) spots then spots else insert_by spot_cmp spot spots

-- ---- a card that comes in or leaves

abbrev pub named_with : Spot → Card → Bytes → List Spot → List Spot
named_with spot card id spots = if is_among (names card) id then put_once spot spots else spots

abbrev pub named_without : Spot → Card → Bytes → List Spot → List Spot
named_without spot card id spots = if is_among (names card) id then without_spot spot spots else spots

-- ---- cards in mail order

-- these are the spots of those that name each id
abbrev pub StandsFor : List (Bytes × List Spot) → List Placed → Type 0
StandsFor spots cards = (id : Bytes) → named spots id ≡ map spot (naming id cards)
