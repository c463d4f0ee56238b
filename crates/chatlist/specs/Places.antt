-- Chats, each with the date of its last shown row, in the order of the list.
use Rattle.std.specs.Prelude.{ℕ, not, Option, List, filter}
use Rattle.card_type.specs.declared.key.ChatKey.{ChatKey}
use Rattle.card_type.specs.Keys.{key_eq}
use Rattle.lists.specs.Sorted.{insert_by}
use Rattle.mailbox_model.specs.ChatList.{Dated, dated_cmp}

abbrev pub without_key : ChatKey → List Dated → List Dated
without_key key chats = filter (λ d. not (key_eq key d.0)) chats

-- at its place among the others
abbrev pub with_place : ChatKey → Option ℕ → List Dated → List Dated
with_place key date chats = insert_by dated_cmp (key, date) (without_key key chats)
