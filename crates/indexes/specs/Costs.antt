-- How many reads of kept cards the answers may take.
use Rattle.std.specs.Prelude.{ℕ, ◌+◌, ◌*◌, Option, is_some, length, List, filter, sum_by, count_by}
use Rattle.std.specs.Option.{option_map_or}
use Rattle.card_type.specs.Effects.{is_among, names}
use Rattle.card_type.specs.declared.key.ChatKey.{ChatKey}
use Rattle.mailbox_model.specs.Lists.{Bytes, last_of}
use Rattle.mailbox_model.specs.Mailbox.{Mailbox}
use Rattle.mailbox_model.specs.Present.{Mail, mail_of, present_cards, contents}
use Rattle.mailbox_model.specs.Chats.{chat_mails}
use Rattle.mailbox_model.specs.Pages.{keys}
use Rattle.mailbox_model.specs.Rows.{row}

-- how many cards are kept
abbrev pub kept_cards : Mailbox → ℕ
kept_cards m = count_by (λ entry. is_some (mail_of entry)) m.entries

-- how many present cards name an id
abbrev pub times_named : Mailbox → Bytes → ℕ
times_named m id = count_by (λ e. is_among (names e.card) id) (present_cards m)

-- how many pairs there are of one of these and a present card that names it
abbrev pub pairs : Mailbox → List Mail → ℕ
pairs m ts = sum_by (λ t. times_named m t.placed.card.id) ts

-- for all that is kept of a mailbox
abbrev pub load : Mailbox → ℕ
load m = 8 * (kept_cards m + pairs m (contents m)) + 16

-- for one row
abbrev pub row_cost : Mailbox → Bytes → ℕ
row_cost m id = 2 * (1 + times_named m id)

-- the last mail of a chat that is shown
abbrev pub last_shown : Mailbox → ChatKey → Option Mail
last_shown m key = last_of (filter (λ t. is_some (row m t)) (chat_mails m key))

-- for the row of a chat in the list, which is made of the last one that is shown
abbrev pub chat_cost : Mailbox → ChatKey → ℕ
chat_cost m key = option_map_or (λ t. row_cost m t.placed.card.id) (last_shown m key) 0

abbrev pub list_cost : Mailbox → ℕ
list_cost m = sum_by (chat_cost m) (keys m)

-- for the page of a chat
abbrev pub page_cost : Mailbox → ChatKey → ℕ
page_cost m key = 2 * (length (chat_mails m key) + pairs m (chat_mails m key))
