-- What is kept of each address.
use Rattle.std.specs.Prelude.{◌≡◌, ℕ, if◌then◌else◌, Option, List, [], map, filter, unwrap_or, option_map}
use Rattle.std.specs.List.{count_by, sum_by}
use Rattle.std.specs.Map.{lookup, remove_entry}
use Rattle.std.specs.BTreeMap.{insert_entry, is_at}
use Rattle.std.specs.Str.{bytes_eq}
use Rattle.card_type.specs.declared.card.Card.{Card}
use Rattle.card_type.specs.declared.spot.Spot.{Spot}
use Rattle.card_type.specs.Spots.{spot_cmp}
use Rattle.mailbox_model.specs.declared.contact.ContactRow.{ContactRow}
use Rattle.mailbox_model.specs.Lists.{Bytes, last_of}
use Rattle.mailbox_model.specs.Present.{Placed, spot}
use Rattle.mailbox_model.specs.Chats.{people}
use Rattle.mailbox_model.specs.Contacts.{gives_name}

-- how often cards mention each address, and the names that they give it
pub record Kept : Type 0 where
  pub mentions : List (Bytes × ℕ)
  pub names : List (Bytes × List (Spot × Bytes))

-- how often an address is mentioned
abbrev pub mentions_at : List (Bytes × ℕ) → Bytes → ℕ
mentions_at mentions addr = unwrap_or (lookup (bytes_eq addr) mentions) 0

-- its names in mail order, each with the spot of the card that gives it
abbrev pub names_at : List (Bytes × List (Spot × Bytes)) → Bytes → List (Spot × Bytes)
names_at names addr = unwrap_or (lookup (bytes_eq addr) names) []

abbrev pub last_name : List (Spot × Bytes) → Option Bytes
last_name names = option_map (λ given. given.1) (last_of names)

-- its last name, else the address
abbrev pub shown_name : Kept → Bytes → Bytes
shown_name kept addr = unwrap_or (last_name (names_at kept.names addr)) addr

abbrev pub contact_row : Kept → Bytes → ContactRow
contact_row kept addr = record { addr = addr; name = shown_name kept addr }

-- ---- a card that comes in or leaves

-- how often an address is among From, To and Cc of a card
abbrev pub times_in : Card → Bytes → ℕ
times_in card addr = count_by (bytes_eq addr) (people card)

abbrev pub names_with : Spot → Card → Bytes → List (Spot × Bytes) → List (Spot × Bytes)
names_with spot card addr names = if gives_name addr card then insert_entry spot_cmp names spot card.from_name else names

abbrev pub names_without : Spot → Card → Bytes → List (Spot × Bytes) → List (Spot × Bytes)
names_without spot card addr names = if gives_name addr card then remove_entry (is_at (spot_cmp spot)) names else names

-- ---- cards in mail order

-- the name that a card gives, with its spot
abbrev pub given_by : Placed → Spot × Bytes
given_by p = (spot p, p.card.from_name)

-- this is what is kept of these cards
pub record StandsFor (kept : Kept) (cards : List Placed) : Type 0 where
  pub mentions : (addr : Bytes) → mentions_at kept.mentions addr ≡ sum_by (λ p. times_in p.card addr) cards
  pub names : (addr : Bytes) → names_at kept.names addr ≡ map given_by (filter (λ p. gives_name addr p.card) cards)
