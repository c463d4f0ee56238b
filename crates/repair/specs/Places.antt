-- Where a content card is: in which chat, and at which spot.
use Rattle.std.specs.Prelude.{◌≡◌, Bool, false, ◌&&◌, if◌then◌else◌, Option, Some, option_map}
use Rattle.std.specs.Option.{option_and_then}
use Rattle.std.specs.Str.{bytes_eq}
use Rattle.card_type.specs.declared.card.Card.{Card}
use Rattle.card_type.specs.declared.key.ChatKey.{ChatKey}
use Rattle.card_type.specs.declared.spot.Spot.{Spot}
use Rattle.card_type.specs.Keys.{key_eq}
use Rattle.card_type.specs.Spots.{spot_eq}
use Rattle.mailbox_model.specs.Chats.{chat}
use Rattle.mailbox_model.specs.Lists.{Bytes}
use Rattle.mailbox_model.specs.Mailbox.{Mailbox}
use Rattle.mailbox_model.specs.Present.{spot}
use Rattle.mailbox_model.specs.States.{Shown}
use Rattle.chat_states.specs.Families.{Family, IsSmall}
use Rattle.repair.specs.declared.place.Place.{Place}
use Rattle.repair.specs.Cards.{content_at}

-- the chat and the spot of the card with an id
abbrev pub place_in : Mailbox → Bytes → Option (ChatKey × Spot)
place_in m id = option_and_then (λ key. option_map (λ t. (key, spot t.placed)) (content_at m id)) (chat m id)

-- what a place says
abbrev pub place_of : Place → ChatKey × Spot
place_of p = (p.chat, p.spot.now)

-- a place that may be missing is that of the card with an id
abbrev pub IsPlace : Mailbox → Bytes → Option Place → Type 0
IsPlace m id place = option_map place_of place ≡ place_in m id

-- ---- the cards of all chats, with others at one id

abbrev pub with_id : Bytes → (ChatKey → Option Shown) → Family → Family
with_id id cards family = λ key i. if bytes_eq id i then cards key else family key i

-- a card at its spot, whatever its mark
abbrev pub unmarked : Shown → Spot × Card
unmarked c = (c.spot, c.card)

-- no chat has too many cards
abbrev pub AreSmall : Family → Type 0
AreSmall family = (key : ChatKey) → IsSmall (family key)

-- ---- whether a card is at one place twice

abbrev pub same_place : Option (ChatKey × Spot) → Option (ChatKey × Spot) → Bool
same_place (Some p) (Some q) = key_eq p.0 q.0 && spot_eq p.1 q.1
same_place p q = false
