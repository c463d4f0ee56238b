-- What is told of the cards whose chat is another one than before.
use Rattle.std.specs.Prelude.{◌≡◌, false, List}
use Rattle.std.specs.List.{AllByRecursion, list_any}
use Rattle.std.specs.Str.{bytes_eq}
use Rattle.mailbox_model.specs.declared.links.Cites.{Cites}
use Rattle.mailbox_model.specs.declared.links.Moved.{Moved}
use Rattle.mailbox_model.specs.Lists.{Bytes}
use Rattle.mailbox_model.specs.Chats.{chat_among}

-- each move tells the chat before, and a card of which no move is told is in the same chat
pub record IsTold (moved : List Moved) (before after : List Cites) : Type 0 where
  pub each : AllByRecursion (λ move. move.before ≡ chat_among before move.id) moved
  pub others : (id : Bytes) → list_any (λ move. bytes_eq id move.id) moved ≡ false → chat_among before id ≡ chat_among after id
