-- The chats that cards were in before, where some moved since.
use Rattle.std.specs.Prelude.{◌≡◌, Option, List, unwrap_or}
use Rattle.std.specs.Map.{lookup}
use Rattle.std.specs.Str.{bytes_eq}
use Rattle.card_type.specs.declared.key.ChatKey.{ChatKey}
use Rattle.mailbox_model.specs.declared.links.Cites.{Cites}
use Rattle.mailbox_model.specs.Lists.{Bytes}
use Rattle.mailbox_model.specs.Chats.{chat_among}

-- the chat that a card was in before: the one that is noted of it, else the one that it is in now
abbrev pub chat_before : List (Bytes × Option ChatKey) → List Cites → Bytes → Option ChatKey
chat_before moves now id = unwrap_or (lookup (bytes_eq id) moves) (chat_among now id)

-- the chats before are those that the first cites give
abbrev pub LeadBack : List (Bytes × Option ChatKey) → List Cites → List Cites → Type 0
LeadBack moves now first = (id : Bytes) → chat_before moves now id ≡ chat_among first id
