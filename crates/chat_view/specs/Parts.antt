-- The parts of the page of a chat.
use Rattle.card_type.specs.declared.key.ChatKey.{ChatKey}
use Rattle.card_type.specs.declared.spot.Spot.{Spot}
use Rattle.mailbox_model.specs.declared.row.Row.{Row}
use Rattle.mailbox_model.specs.Mailbox.{Mailbox}
use Rattle.mailbox_model.specs.States.{chat_cards}
use Rattle.chat_view.specs.declared.state.ChatState.{ChatState}
use Rattle.chat_view.specs.Standing.{state_of}

-- the state of a chat of a mailbox
abbrev pub state : Mailbox → ChatKey → ChatState
state m key = state_of m.me key (chat_cards m key)

-- the spot of the card of a row
abbrev pub row_spot : Row → Spot
row_spot r = record { date = r.date; id = r.id; uid = r.uid }
