-- The page of a chat.
use Rattle.std.specs.Prelude.{if◌then◌else◌, Option, Some, None, find, filter_map, map, List}
use Rattle.std.specs.List.{list_any}
use Rattle.lists.specs.Distinct.{firsts}
use Rattle.kit.specs.Options.{◌>>=◌}
use Rattle.card_type.specs.declared.key.ChatKey.{ChatKey}
use Rattle.card_type.specs.Keys.{key_eq}
use Rattle.mailbox_model.specs.declared.row.UpdateRow.{UpdateRow}
use Rattle.mailbox_model.specs.declared.row.Row.{Row}
use Rattle.mailbox_model.specs.declared.page.ChatPage.{ChatPage}
use Rattle.mailbox_model.specs.declared.roster.Roster.{Roster}
use Rattle.mailbox_model.specs.Lists.{Bytes}
use Rattle.mailbox_model.specs.Mailbox.{Mailbox}
use Rattle.mailbox_model.specs.Present.{has_id, contents}
use Rattle.mailbox_model.specs.Chats.{chats, chat_mails}
use Rattle.mailbox_model.specs.Rows.{row}
use Rattle.mailbox_model.specs.Rosters.{roster}
use Rattle.mailbox_model.specs.Names.{name}

-- the keys of the chats that have a card
abbrev pub keys : Mailbox → List ChatKey
keys m = firsts key_eq (map (λ k. k.1) (chats m))

-- the rows of a chat that are shown, in mail order
abbrev pub shown_rows : Mailbox → ChatKey → List Row
shown_rows m key = filter_map (row m) (chat_mails m key)

abbrev pub page_by : ChatKey → Bytes → Roster → List Row → ChatPage
page_by key name r rows = record { key = key; name = name; members = r.members; timer = r.timer; rows = rows }

abbrev pub page_of : Mailbox → ChatKey → ChatPage
page_of m key = page_by key (name m key) (roster m key) (shown_rows m key)

-- the page of a chat that has a card
abbrev pub page : Mailbox → ChatKey → Option ChatPage
page m key = if list_any (key_eq key) (keys m) then Some (page_of m key) else None

abbrev pub app_updates : Row → Option (List UpdateRow)
app_updates r = if r.app then Some r.updates else None

-- the updates of the app with this id, where it is shown
abbrev pub updates : Mailbox → Bytes → Option (List UpdateRow)
updates m id = find (has_id id) (contents m) >>= row m >>= app_updates
