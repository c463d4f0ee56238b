-- The entries of a mailbox, one by one.
use Rattle.std.specs.Prelude.{◌≡◌, ℕ, Option, Some, Result, [], ◌∷◌, ◌++◌, slice_get}
use Rattle.card_type.specs.declared.card.Card.{Card}
use Rattle.mailbox_model.specs.declared.change.Fault.{Fault}
use Rattle.mailbox_model.specs.declared.item.Item.{Item}
use Rattle.mailbox_model.specs.Mailbox.{Mailbox, Entry}
use Rattle.box_state.specs.Kept.{entries_of}

-- the entry at this index has the uid
pub record IsEntryAt (m : Mailbox) (uid index : ℕ) : Type 0 where
  pub entry : Entry
  pub there : slice_get m.entries index ≡ Some entry
  pub named : entry.uid ≡ uid

-- an item with what was read of its mail
abbrev pub entry_with : Item → Result Card Fault → Entry
entry_with item read = record { uid = item.uid; arrival = item.arrival; seen = item.seen; read = read }

-- an item more, with its card
abbrev pub with_item : Mailbox → Item → Option Card → Mailbox
with_item m item card = record m { entries = m.entries ++ entries_of ((item, card) ∷ []) }
