-- Mail order, and which cards are present.
use Rattle.std.specs.Prelude.{ℕ, min, ◌==◌, Bool, Option, Some, None, Result, Ok, Err, List, map, find, filter, filter_map, option_map}
use Rattle.std.specs.Option.{option_map_or}
use Rattle.std.specs.Str.{bytes_eq}
use Rattle.std.specs.declared.cmp.Ordering.{Ordering}
use Rattle.std.specs.Ordering.{on}
use Rattle.lists.specs.Distinct.{firsts}
use Rattle.kit.specs.Options.{◌>>=◌}
use Rattle.card_type.specs.declared.card.Card.{Card}
use Rattle.card_type.specs.declared.spot.Spot.{Spot}
use Rattle.card_type.specs.Kinds.{kind_of, is_content}
use Rattle.card_type.specs.Spots.{spot_cmp}
use Rattle.mailbox_model.specs.declared.change.Fault.{Fault}
use Rattle.lists.specs.Sorted.{sorted_by}
use Rattle.mailbox_model.specs.Lists.{Bytes}
use Rattle.mailbox_model.specs.Mailbox.{Mailbox, Entry, entry_at}

-- the lesser of the date and the arrival, and the arrival where there is no date
abbrev pub effective_date : Option ℕ → ℕ → ℕ
effective_date date arrival = option_map_or (λ d. min d arrival) date arrival

-- a card in its place: with its effective date and its uid
pub record Placed : Type 0 where
  pub date : ℕ
  pub uid : ℕ
  pub card : Card

-- its spot in mail order
abbrev pub spot : Placed → Spot
spot p = record { date = p.date; id = p.card.id; uid = p.uid }

-- a card in its place, and when its mail was seen
pub record Mail : Type 0 where
  pub placed : Placed
  pub seen : Option ℕ

abbrev pub placed_by : Entry → Card → Placed
placed_by entry card = record { date = effective_date card.date entry.arrival; uid = entry.uid; card = card }

abbrev pub mail_by : Entry → Result Card Fault → Option Mail
mail_by entry (Ok card) = Some (record { placed = placed_by entry card; seen = entry.seen })
mail_by entry (Err fault) = None

abbrev pub mail_of : Entry → Option Mail
mail_of entry = mail_by entry entry.read

-- the mail with a uid, where it has a card
abbrev pub mail_at : Mailbox → ℕ → Option Mail
mail_at m uid = entry_at m uid >>= mail_of

abbrev pub mail_cmp : Mail → Mail → Ordering
mail_cmp = on (λ t. spot t.placed) spot_cmp

-- all mails with a card, in mail order
abbrev pub mails : Mailbox → List Mail
mails m = sorted_by mail_cmp (filter_map mail_of m.entries)

abbrev pub has_id : Bytes → Mail → Bool
has_id id t = bytes_eq id t.placed.card.id

abbrev pub same_id : Mail → Mail → Bool
same_id a b = bytes_eq a.placed.card.id b.placed.card.id

abbrev pub same_uid : Mail → Mail → Bool
same_uid a b = a.placed.uid == b.placed.uid

-- the mails in mail order, of each id only the first
abbrev pub present : Mailbox → List Mail
present m = firsts same_id (mails m)

-- where the present mail with this id is
abbrev pub spot_of : Mailbox → Bytes → Option Spot
spot_of m id = option_map (λ t. spot t.placed) (find (has_id id) (present m))

-- the present cards, each in its place
abbrev pub present_cards : Mailbox → List Placed
present_cards m = map (λ t. t.placed) (present m)

-- the present mails of kind Content
abbrev pub contents : Mailbox → List Mail
contents m = filter (λ t. is_content (kind_of t.placed.card)) (present m)
