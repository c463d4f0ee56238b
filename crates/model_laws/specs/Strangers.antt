-- What a row shows that is not the work of its sender.
use Rattle.std.specs.Prelude.{◌≡◌, Some, []}
use Rattle.card_type.specs.declared.card.Card.{Card}
use Rattle.card_type.specs.declared.effect.Effect.{Effect}
use Rattle.card_type.specs.declared.effect.Effect.TheVariants.{Read}
use Rattle.mailbox_model.specs.declared.row.Row.{Row}
use Rattle.mailbox_model.specs.Lists.{Bytes}

-- e says that it read t, which is one's own
pub record IsReceiptOfOwn (e t : Card) (me : Bytes) (effect : Effect) : Type 0 where
  pub effect_is : effect ≡ Read
  pub own : t.from ≡ me
  pub receipt : e.receipt ≡ Some t.id

-- all of a row but who read it
abbrev pub but_readers : Row → Row
but_readers r = record r { readers = [] }

-- all of a row but what others add to it: who read it, who reacted to it, and the updates of its app
abbrev pub but_added : Row → Row
but_added r = record r { readers = []; reactions = []; updates = [] }
