-- The mails without a card, from the items.
use Rattle.std.proofs.Common.{◌≡◌, refl, ℕ, Option, Some, None, Result, Ok, Err, List, [], ◌∷◌, map}
use Rattle.std.specs.Prelude.{filter_map}
use Rattle.std.specs.List.{cons_option}
use Rattle.card_type.specs.declared.card.Card.{Card}
use Rattle.mailbox_model.specs.declared.change.Fault.{Fault}
use Rattle.mailbox_model.specs.declared.item.Held.{Held}
use Rattle.mailbox_model.specs.declared.item.Held.TheVariants as is_held
use Rattle.mailbox_model.specs.declared.item.Item.{Item}
use Rattle.mailbox_model.specs.declared.list.FaultRow.{FaultRow}
use Rattle.mailbox_model.specs.ChatList.{fault_by}
use Rattle.mailbox_model.specs.Mailbox.{Entry, held, item_of}

-- the row of what is held of a mail
abbrev pub fault_held : ℕ → Held → Option FaultRow
fault_held uid is_held.Card = None
fault_held uid (is_held.Fault fault) = Some (record { uid = uid; fault = fault })

abbrev pub fault_of : Item → Option FaultRow
fault_of item = fault_held item.uid item.held

pub row_is : (item : Item) (o : Option FaultRow) → (item.held ≡ is_held.Card → o ≡ None)
    → ((fault : Fault) → item.held ≡ is_held.Fault fault → o ≡ Some (record { uid = item.uid; fault = fault })) → o ≡ fault_of item
row_is item o f g = by item.held refl
  where
    by : (held : Held) → item.held ≡ held → o ≡ fault_held item.uid held
    by is_held.Card k = f k
    by (is_held.Fault fault) k = g fault k

held_is : (uid : ℕ) (r : Result Card Fault) → fault_held uid (held r) ≡ fault_by uid r
held_is uid (Ok card) = refl
held_is uid (Err fault) = refl

pub faults_are : (entries : List Entry) → filter_map fault_of (map item_of entries) ≡ filter_map (λ entry. fault_by entry.uid entry.read) entries
faults_are [] = refl
faults_are (e ∷ es) = λ i. cons_option (held_is e.uid e.read i) (faults_are es i)
