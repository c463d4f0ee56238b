-- Who wrote or was written to, and how they are called.
use Rattle.std.specs.Prelude.{Bool, ◌&&◌, Option, unwrap_or, option_map, List, map, filter, flat_map}
use Rattle.std.specs.Str.{bytes_eq}
use Rattle.std.specs.Ordering.{nat_cmp}
use Rattle.std.specs.Cmp.Lexicographic.{slice_cmp}
use Rattle.lists.specs.Distinct.{each_once}
use Rattle.card_type.specs.declared.card.Card.{Card}
use Rattle.card_type.specs.Kinds.{has_some}
use Rattle.mailbox_model.specs.declared.contact.ContactRow.{ContactRow}
use Rattle.lists.specs.Sorted.{sorted_by}
use Rattle.mailbox_model.specs.Lists.{Bytes, without, last_of}
use Rattle.mailbox_model.specs.Mailbox.{Mailbox}
use Rattle.mailbox_model.specs.Present.{present_cards}
use Rattle.mailbox_model.specs.Chats.{people}

-- whether a card gives the name of an address
abbrev pub gives_name : Bytes → Card → Bool
gives_name addr card = bytes_eq card.from addr && has_some card.from_name

-- the last name under which an address wrote
abbrev pub given_name : List Card → Bytes → Option Bytes
given_name cards addr = option_map (λ card. card.from_name) (last_of (filter (gives_name addr) cards))

abbrev pub name_among : List Card → Bytes → Bytes
name_among cards addr = unwrap_or (given_name cards addr) addr

-- all but oneself, in the order of addresses
abbrev pub addresses : Bytes → List Card → List Bytes
addresses me cards = sorted_by (slice_cmp nat_cmp) (without me (each_once (flat_map people cards)))

-- of cards in mail order
abbrev pub contacts_by : Bytes → List Card → List ContactRow
contacts_by me cards = map (λ addr. record { addr = addr; name = name_among cards addr }) (addresses me cards)

-- ---- in a mailbox

abbrev pub all_cards : Mailbox → List Card
all_cards m = map (λ p. p.card) (present_cards m)

abbrev pub contact_name : Mailbox → Bytes → Bytes
contact_name m addr = name_among (all_cards m) addr

abbrev pub contacts : Mailbox → List ContactRow
contacts m = contacts_by m.me (all_cards m)
