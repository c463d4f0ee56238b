-- A mailbox as contracts see it, and what its fields keep.
use Rattle.std.specs.Prelude.{◌≡◌, ℕ, Bool, true, false, Option, Some, None, List, [], ◌∷◌, ◌++◌, filter_map}
use Rattle.std.specs.List.{AllByRecursion}
use Rattle.card_type.specs.declared.card.Card.{Card}
use Rattle.mailbox_model.specs.declared.change.Change.{Change}
use Rattle.mailbox_model.specs.declared.change.Change.TheVariants.{Arrive, ArriveFault, Expunge, Seen, At}
use Rattle.mailbox_model.specs.declared.item.Held.{Held}
use Rattle.mailbox_model.specs.declared.item.Held.TheVariants as is_held
use Rattle.mailbox_model.specs.declared.item.Item.{Item}
use Rattle.mailbox_model.specs.Lists.{Bytes}
use Rattle.mailbox_model.specs.Mailbox.{Mailbox, Entry, entry_of}
use Rattle.box_state.specs.declared.entry.Entry as put_back
use Rattle.box_state.specs.declared.ready.Ready.{Ready}
use Rattle.box_state.specs.declared.ready.Ready.TheVariants.{Unready, ForFault, ForCard}

-- ---- what contracts see

-- a mailbox, and the arrival for which it has room
pub record Kept : Type 0 where
  pub mailbox : Mailbox
  pub ready : Ready

-- what is made ready for a change: only an arrival needs room
abbrev pub ready_for : Change → Ready
ready_for (Arrive card) = ForCard card.id
ready_for (ArriveFault fault) = ForFault
ready_for (Expunge uid) = Unready
ready_for (Seen uid) = Unready
ready_for (At moment) = Unready

abbrev pub is_arrival : Change → Bool
is_arrival (Arrive card) = true
is_arrival (ArriveFault fault) = true
is_arrival (Expunge uid) = false
is_arrival (Seen uid) = false
is_arrival (At moment) = false

-- it has the room that this change needs
abbrev pub IsReady : Ready → Change → Type 0
IsReady ready change = is_arrival change ≡ true → ready ≡ ready_for change

-- ---- what is put back

-- an entry of the code
abbrev pub entry_in : put_back.Entry → Entry
entry_in e = record { uid = e.uid; arrival = e.arrival; seen = e.seen; read = e.read }

-- an entry more, after the others
abbrev pub with_entry : Mailbox → Entry → Mailbox
with_entry m entry = record m { entries = m.entries ++ entry ∷ [] }

-- ---- items with their cards

-- a card stands beside an item exactly where the item holds one
abbrev pub is_beside : Held → Option Card → Bool
is_beside is_held.Card (Some card) = true
is_beside is_held.Card None = false
is_beside (is_held.Fault fault) (Some card) = false
is_beside (is_held.Fault fault) None = true

abbrev pub AreBeside : List (Item × Option Card) → Type 0
AreBeside items = AllByRecursion (λ p. is_beside p.0.held p.1 ≡ true) items

-- the entries that they make
abbrev pub entries_of : List (Item × Option Card) → List Entry
entries_of items = filter_map (λ p. entry_of p.0 p.1) items

-- the mailbox that has just these values
abbrev pub mailbox_of : Bytes → ℕ → ℕ → List (Item × Option Card) → Mailbox
mailbox_of me moment next_uid items = record { me = me; now = moment; next_uid = next_uid; entries = entries_of items }
