-- What is asked of a mailbox, and the text that answers it.
use Rattle.std.specs.Prelude.{Bool, is_some, Option, Some, option_map, length, filter}
use Rattle.card_type.specs.declared.key.ChatKey.{ChatKey}
use Rattle.mailbox_model.specs.declared.row.UpdateRow.{UpdateRow}
use Rattle.mailbox_model.specs.Lists.{Bytes}
use Rattle.mailbox_model.specs.Mailbox.{Mailbox}
use Rattle.mailbox_model.specs.Contacts.{contacts}
use Rattle.mailbox_model.specs.Pages.{page, updates}
use Rattle.mailbox_model.specs.ChatList.{list_page}
use Rattle.mailbox_model.specs.Printed.{list_text, chat_text, contacts_text, updates_text}

-- the list of chats, a chat, the contacts, and the updates of an app: all, or those that have an info
pub data Question : Type 0 where
  AllChats : Question
  OneChat : (key : ChatKey) → Question
  AllContacts : Question
  AllUpdates : (id : Bytes) → Question
  InfoUpdates : (id : Bytes) → Question

abbrev pub has_info : UpdateRow → Bool
has_info r = is_some r.update.info

-- none where no chat has the key, or no shown app the id
abbrev pub answer : Mailbox → Question → Option Bytes
answer m AllChats = Some (list_text (list_page m))
answer m (OneChat key) = option_map chat_text (page m key)
answer m AllContacts = Some (contacts_text (contacts m))
answer m (AllUpdates id) = option_map (λ rows. updates_text (length rows) rows) (updates m id)
answer m (InfoUpdates id) = option_map (λ rows. updates_text (length rows) (filter has_info rows)) (updates m id)
