-- What the fields of a mailbox keep.
use Rattle.std.specs.Prelude.{◌≡◌, ℕ, ◌-◌, ◌<◌, Option, List, map, filter, filter_map, option_map, vec_len, vec_capacity}
use Rattle.std.specs.FinMap as fin
use Rattle.card_type.specs.declared.card.Card.{Card}
use Rattle.mailbox_model.specs.declared.item.Item.{Item}
use Rattle.mailbox_model.specs.Lists.{Bytes}
use Rattle.mailbox_model.specs.Mailbox.{Mailbox, Entry, entry_of, item_of, card_at, weights, IsMailbox}
use Rattle.mailbox_model.specs.Present.{spot, has_id, mail_at, mails}
use Rattle.box_state.specs.declared.ready.Ready.{Ready}
use Rattle.box_state.specs.declared.ready.Ready.TheVariants.{Unready, ForFault, ForCard}
use Rattle.box_state.specs.declared.mailbox.Mailbox.TheInside.{Inside}
use Rattle.box_state.specs.Stores.{Store}
use Rattle.box_state.specs.Spots.{SpotTable, spot_at, copies_at, dated, HasRoom}
use Rattle.box_state.specs.Kept.{Kept}

-- the entries of items and of the cards by uid
abbrev pub entries_by : (ℕ → Option Card) → List Item → List Entry
entries_by card_of items = filter_map (λ item. entry_of item (card_of item.uid)) items

abbrev pub mailbox_in : Inside → Mailbox
mailbox_in a = record { me = a.me; now = a.moment; next_uid = a.next_uid; entries = entries_by (λ uid. fin.get a.cards.cards uid) a.items.items }

abbrev pub kept_in : Inside → Kept
kept_in a = record { mailbox = mailbox_in a; ready = a.ready }

-- items and cards are those of the entries
pub record AreEntries (m : Mailbox) (kept : List Item) (card_of : ℕ → Option Card) : Type 0 where
  pub items : map item_of m.entries ≡ kept
  pub cards : (uid : ℕ) → card_of uid ≡ card_at m uid

-- the spots are those of the mails, and so are the copies of each id
pub record AreSpots (m : Mailbox) (table : SpotTable) : Type 0 where
  pub spots : (uid : ℕ) → spot_at table uid ≡ option_map (λ t. spot t.placed) (mail_at m uid)
  pub copies : (id : Bytes) → copies_at table id ≡ map (λ t. dated (spot t.placed)) (filter (has_id id) (mails m))

-- an arrival can be kept without memory
abbrev pub HasRoomFor : Ready → ℕ → Store → SpotTable → Type 0
HasRoomFor Unready spare cards spots = Unit {0}
HasRoomFor ForFault spare cards spots = 0 < spare
HasRoomFor (ForCard id) spare cards spots = (0 < spare) × (0 < cards.spare) × HasRoom spots id

pub record IsKept (a : Inside) : Type 0 where
  pub rules : IsMailbox (mailbox_in a)
  pub entries : AreEntries (mailbox_in a) a.items.items (λ uid. fin.get a.cards.cards uid)
  pub weight : a.weight ≡ weights (mailbox_in a).entries
  pub spots : AreSpots (mailbox_in a) a.spots
  pub room : HasRoomFor a.ready (vec_capacity a.items - vec_len a.items) a.cards a.spots
