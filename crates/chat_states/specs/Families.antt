-- The cards of all chats by their ids, and the list of those of one chat.
use Rattle.std.specs.Prelude.{◌≡◌, true, ◌<◌, ◌&&◌, if◌then◌else◌, Option, is_some, List, length, filter}
use Rattle.std.specs.Option.{option_to_list}
use Rattle.std.specs.Str.{bytes_eq}
use Rattle.card_type.specs.Effects.{is_among}
use Rattle.card_type.specs.Keys.{key_eq}
use Rattle.card_type.specs.declared.key.ChatKey.{ChatKey}
use Rattle.mailbox_model.specs.Lists.{Bytes}
use Rattle.mailbox_model.specs.States.{Shown}
use Rattle.chat_view.specs.Changes.{AreInOrder}

-- the card with an id in a chat
abbrev pub Family : Type 0
Family = ChatKey → Bytes → Option Shown

-- with another card at one id of one chat, or with none there
abbrev pub with_card : ChatKey → Bytes → Option Shown → Family → Family
with_card key id card family = λ k i. if key_eq key k && bytes_eq id i then card else family k i

-- these are the cards of a chat, in mail order: at each id the one that it has there
pub record AreCardsOf (by_id : Bytes → Option Shown) (cards : List Shown) : Type 0 where
  pub order : AreInOrder cards
  pub each : (id : Bytes) → filter (λ c. bytes_eq id c.spot.id) cards ≡ option_to_list (by_id id)

-- these ids are those of all cards of a chat, and perhaps others
abbrev pub CoverAll : List Bytes → (Bytes → Option Shown) → Type 0
CoverAll ids by_id = (id : Bytes) → is_some (by_id id) ≡ true → is_among ids id ≡ true

-- a chat has so few cards that they and one more are counted in a `u32`
pub record IsSmall (by_id : Bytes → Option Shown) : Type 0 where
  pub ids : List Bytes
  pub few : length ids < 4294967295
  pub all : CoverAll ids by_id
