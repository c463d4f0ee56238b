-- What the row of the list follows from, card by card: the place and the mark of each card of a chat.
use Rattle.std.specs.Prelude.{ℕ, false, Option, is_some, option_map, List, map, filter, count_by}
use Rattle.std.specs.Option.{option_map_or}
use Rattle.card_type.specs.declared.card.Card.{Card}
use Rattle.card_type.specs.declared.key.ChatKey.{ChatKey}
use Rattle.card_type.specs.declared.spot.Spot.{Spot}
use Rattle.mailbox_model.specs.declared.row.Mark.{Mark}
use Rattle.mailbox_model.specs.Lists.{last_of}
use Rattle.mailbox_model.specs.Mailbox.{Mailbox}
use Rattle.mailbox_model.specs.Present.{Mail, spot}
use Rattle.mailbox_model.specs.Chats.{chat_mails}
use Rattle.mailbox_model.specs.Rows.{is_new, row}

-- a card at its spot, and how its row is marked, where it is shown
pub record Shown : Type 0 where
  pub spot : Spot
  pub card : Card
  pub mark : Option Mark

-- where the last one is that is shown
abbrev pub last_spot : List Shown → Option Spot
last_spot cards = option_map (λ c. c.spot) (last_of (filter (λ c. is_some c.mark) cards))

-- how many are new
abbrev pub fresh_among : List Shown → ℕ
fresh_among cards = count_by (λ c. option_map_or is_new c.mark false) cards

abbrev pub shown_as : Mailbox → Mail → Shown
shown_as m t = record { spot = spot t.placed; card = t.placed.card; mark = option_map (λ r. r.mark) (row m t) }

-- the cards of a chat, in mail order
abbrev pub chat_cards : Mailbox → ChatKey → List Shown
chat_cards m key = map (shown_as m) (chat_mails m key)
