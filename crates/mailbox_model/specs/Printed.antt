-- What is printed.
use Rattle.std.specs.Prelude.{ℕ, if◌then◌else◌, Option, Some, None, List, [], ◌++◌, length, map, flat_map, take, codes}
use Rattle.std.specs.Char.{is_ascii_control}
use Rattle.std.specs.Fmt.{decimal}
use Rattle.std.specs.List.{join_by}
use Rattle.std.specs.Option.{option_map_or}
use Rattle.std.specs.Str.{chars, encode_utf8_all}
use Rattle.card_type.specs.declared.card.Attachment.{Attachment}
use Rattle.card_type.specs.declared.card.Payload.{Payload}
use Rattle.card_type.specs.declared.card.Payload.TheVariants.{Absent, Json, Hidden}
use Rattle.card_type.specs.Kinds.{has_some}
use Rattle.card_type.specs.KeyTexts.{key_text}
use Rattle.mailbox_model.specs.declared.change.Fault.{Fault}
use Rattle.mailbox_model.specs.declared.change.Fault.TheVariants.{NoFields, NoFrom, CardTooLong, TooLong}
use Rattle.mailbox_model.specs.declared.contact.ContactRow.{ContactRow}
use Rattle.mailbox_model.specs.declared.list.ListRow.{ListRow}
use Rattle.mailbox_model.specs.declared.list.FaultRow.{FaultRow}
use Rattle.mailbox_model.specs.declared.list.ListPage.{ListPage}
use Rattle.mailbox_model.specs.declared.page.ChatPage.{ChatPage}
use Rattle.mailbox_model.specs.declared.row.Mark.{Mark}
use Rattle.mailbox_model.specs.declared.row.Mark.TheVariants.{Out, New, Seen}
use Rattle.mailbox_model.specs.declared.row.UpdateRow.{UpdateRow}
use Rattle.mailbox_model.specs.declared.row.Row.{Row}
use Rattle.mailbox_model.specs.Bodies.{body, where_true}
use Rattle.mailbox_model.specs.Lists.{Bytes}
use Rattle.mailbox_model.specs.Times.{time_text}

-- a field: each control character, below 32 or 127, becomes a space
abbrev pub field : Bytes → Bytes
field bytes = map (λ b. if is_ascii_control b then 32 else b) bytes

abbrev pub or_dash : Bytes → Bytes
or_dash bytes = if has_some bytes then bytes else codes "-"

-- ---- the list: KEY | NAME | fresh N | TIME | BODY, and fault UID TEXT

-- the first 60 characters
abbrev pub short : Bytes → Bytes
short text = encode_utf8_all (take 60 (chars text))

-- TIME | BODY, of the last shown row
abbrev pub last_text : Option ℕ → Bytes → Bytes
last_text None text = codes "- | -"
last_text (Some time) text = time_text time ++ codes " | " ++ field (short text)

abbrev pub list_line : ListRow → Bytes
list_line r =
    field (key_text r.key) ++ codes " | " ++ field r.name ++ codes " | fresh " ++ decimal r.fresh ++ codes " | "
    ++ last_text r.time r.body ++ codes "\n"

abbrev pub fault_text : Fault → Bytes
fault_text NoFields = codes "no fields"
fault_text NoFrom = codes "no From"
fault_text CardTooLong = codes "card too long"
fault_text TooLong = codes "mail too long"

abbrev pub fault_line : FaultRow → Bytes
fault_line f = codes "fault " ++ decimal f.uid ++ codes " " ++ fault_text f.fault ++ codes "\n"

abbrev pub list_text : ListPage → Bytes
list_text page = flat_map list_line page.rows ++ flat_map fault_line page.faults

-- ---- a chat: its key, name, members and timer, and then #UID TIME FROM MARK: BODY

abbrev pub mark_text : Mark → Bytes
mark_text Out = codes "out"
mark_text New = codes "new"
mark_text Seen = codes "seen"

abbrev pub row_line : Row → Bytes
row_line r =
    codes "#" ++ decimal r.uid ++ codes " " ++ time_text r.date ++ codes " " ++ field r.from ++ codes " " ++ mark_text r.mark
    ++ codes ": " ++ field (body r) ++ codes "\n"

abbrev pub file_line : Attachment → Bytes
file_line a = codes "  file " ++ field a.kind ++ codes " " ++ decimal a.size ++ codes " " ++ field (or_dash a.name) ++ codes "\n"

abbrev pub reader_line : Bytes × ℕ → Bytes
reader_line reader = codes "  read by " ++ field reader.0 ++ codes " " ++ time_text reader.1 ++ codes "\n"

abbrev pub reaction_line : Bytes × Bytes → Bytes
reaction_line reaction = codes "  reaction " ++ field reaction.0 ++ codes " " ++ field reaction.1 ++ codes "\n"

abbrev pub row_text : Row → Bytes
row_text r =
    row_line r ++ flat_map file_line r.attachments ++ flat_map reader_line r.readers ++ flat_map reaction_line r.reactions
    ++ where_true r.app (codes "  updates " ++ decimal (length r.updates) ++ codes "\n")

abbrev pub chat_text : ChatPage → Bytes
chat_text page =
    codes "chat " ++ field (key_text page.key) ++ codes "\n"
    ++ codes "name " ++ field page.name ++ codes "\n"
    ++ codes "members " ++ field (join_by (λ addr. addr) (codes ", ") page.members) ++ codes "\n"
    ++ codes "timer " ++ decimal page.timer ++ codes "\n"
    ++ flat_map row_text page.rows

-- ---- the contacts: ADDR | NAME

abbrev pub contact_line : ContactRow → Bytes
contact_line c = field c.addr ++ codes " | " ++ field c.name ++ codes "\n"

abbrev pub contacts_text : List ContactRow → Bytes
contacts_text rows = flat_map contact_line rows

-- ---- the updates of an app: SERIAL/MAX ADDR, and then what an update has

abbrev pub payload_text : Payload → Bytes
payload_text Absent = []
payload_text (Json text) = codes " | payload " ++ field text
payload_text Hidden = codes " | payload hidden"

abbrev pub part_text : Bytes → Option Bytes → Bytes
part_text what part = option_map_or (λ text. codes " | " ++ what ++ codes " " ++ field text) part []

abbrev pub update_line : ℕ → UpdateRow → Bytes
update_line max r =
    decimal r.serial ++ codes "/" ++ decimal max ++ codes " " ++ field r.from ++ payload_text r.update.payload
    ++ part_text (codes "info") r.update.info ++ part_text (codes "document") r.update.document
    ++ part_text (codes "summary") r.update.summary ++ codes "\n"

abbrev pub updates_text : ℕ → List UpdateRow → Bytes
updates_text max rows = flat_map (update_line max) rows
