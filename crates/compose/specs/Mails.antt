-- The mail that a draft is written as.
use Rattle.std.specs.Prelude.{ℕ, ◌==◌, if◌then◌else◌, List, [], ◌∷◌, ◌++◌, codes, decimal, Option, Some, None, option_map}
use Rattle.compose.specs.declared.draft.Act.{Act}
use Rattle.compose.specs.declared.draft.Draft.{Draft}
use Rattle.compose.specs.Dates.{date_text}
use Rattle.compose.specs.Fields.{Slot, ended, header_lines}
use Rattle.compose.specs.Intended.{added, deleted, edited, notification, old_name, reacts, receipt_for, named_group, removed}
use Rattle.compose.specs.Written.{angle, angles_text, body_text, recipients, sender, words}

abbrev pub slot : List ℕ → Option (List (List ℕ)) → Slot
slot name body = record { name = name; body = body }

-- the lines of a body: one, a text, which is left out where it is empty, or ids, which are where there are none
abbrev pub one : List ℕ → Option (List (List ℕ))
one line = Some (line ∷ [])

abbrev pub text_body : List ℕ → Option (List (List ℕ))
text_body [] = None
text_body (b ∷ bs) = Some (words (b ∷ bs))

abbrev pub ids_body : List (List ℕ) → Option (List (List ℕ))
ids_body [] = None
ids_body (i ∷ is) = one (angles_text (i ∷ is))

abbrev pub id_body : Option (List ℕ) → Option (List (List ℕ))
id_body id = option_map (λ i. angle i ∷ []) id

abbrev pub addr_body : Option (List ℕ) → Option (List (List ℕ))
addr_body addr = option_map (λ (a : List ℕ). a ∷ []) addr

abbrev pub timer_body : ℕ → Option (List (List ℕ))
timer_body timer = if timer == 0 then None else one (decimal timer)

-- what a field of a text part, or of a report, says
abbrev pub plain_type : List ℕ
plain_type = codes "text/plain; charset=utf-8"

abbrev pub report_type : List ℕ
report_type = codes "multipart/report; report-type=disposition-notification; boundary=\"=_chats\""

abbrev pub type_of : Option (List ℕ) → List ℕ
type_of None = plain_type
type_of (Some id) = report_type

abbrev pub coding_of : Option (List ℕ) → Option (List (List ℕ))
coding_of None = one (codes "base64")
coding_of (Some id) = None

-- the fields that any mail has
abbrev pub envelope_slots : Draft → List Slot
envelope_slots d =
    slot (codes "From") (Some (sender d.from_name d.from))
    ∷ slot (codes "To") (Some (recipients d.to))
    ∷ slot (codes "Date") (one (date_text d.date))
    ∷ slot (codes "Message-ID") (one (angle d.id))
    ∷ slot (codes "Subject") (text_body d.subject)
    ∷ slot (codes "In-Reply-To") (id_body d.reply)
    ∷ slot (codes "References") (ids_body d.references)
    ∷ []

-- those of a chat and its group
abbrev pub chat_slots : Draft → List Slot
chat_slots d =
    slot (codes "Chat-Version") (one (codes "1.0"))
    ∷ slot (codes "Chat-Group-ID") (addr_body d.group)
    ∷ slot (codes "Chat-Group-Name") (text_body (named_group d.group d.group_name))
    ∷ []

-- those of what is asked for, and of the content
abbrev pub type_slots : Act → List Slot
type_slots act =
    slot (codes "Content-Type") (one (type_of (receipt_for act)))
    ∷ slot (codes "Content-Disposition") (if reacts act then one (codes "reaction") else None)
    ∷ slot (codes "Content-Transfer-Encoding") (coding_of (receipt_for act))
    ∷ []

abbrev pub rest_slots : Draft → List Slot
rest_slots d =
    slot (codes "Ephemeral-Timer") (timer_body d.timer)
    ∷ slot (codes "Chat-Disposition-Notification-To") (if d.ask then one d.from else None)
    ∷ slot (codes "MIME-Version") (one (codes "1.0"))
    ∷ type_slots d.act

-- the fields of an act
abbrev pub act_slots : Act → List Slot
act_slots act =
    slot (codes "Chat-Group-Member-Added") (addr_body (added act))
    ∷ slot (codes "Chat-Group-Member-Removed") (addr_body (removed act))
    ∷ slot (codes "Chat-Group-Name-Changed") (option_map words (old_name act))
    ∷ slot (codes "Chat-Edit") (id_body (edited act))
    ∷ slot (codes "Chat-Delete") (ids_body (deleted act))
    ∷ []

-- the fields, in their order
abbrev pub slots : Draft → List Slot
slots d = envelope_slots d ++ (chat_slots d ++ (act_slots d.act ++ rest_slots d))

-- what an edit puts before its text: U+270F U+FE0F, a pencil
abbrev pub edit_mark : List ℕ
edit_mark = 0xE2 ∷ 0x9C ∷ 0x8F ∷ 0xEF ∷ 0xB8 ∷ 0x8F ∷ []

abbrev pub marked : Option (List ℕ) → List ℕ → List ℕ
marked None text = text
marked (Some id) text = edit_mark ++ text

-- the parts of a report: its text, and the notification
abbrev pub text_fields : List Slot
text_fields = slot (codes "Content-Type") (one plain_type) ∷ slot (codes "Content-Transfer-Encoding") (one (codes "base64")) ∷ []

abbrev pub notification_fields : List Slot
notification_fields = slot (codes "Content-Type") (one (codes "message/disposition-notification")) ∷ []

abbrev pub report : List ℕ → List ℕ → List ℕ
report text notification =
    codes "--=_chats\n" ++ (ended (header_lines text_fields) ++ (10 ∷ (text
    ++ (codes "--=_chats\n" ++ (ended (header_lines notification_fields) ++ (10 ∷ (notification ++ codes "\n--=_chats--\n")))))))

abbrev pub content_by : Draft → Option (List ℕ) → List ℕ
content_by d None = body_text (marked (edited d.act) d.text)
content_by d (Some id) = report (body_text d.text) (notification d.from id)

-- fields, an empty line, and the content
abbrev pub mail_of : Draft → List ℕ
mail_of d = ended (header_lines (slots d)) ++ (10 ∷ content_by d (receipt_for d.act))

-- the same as an mbox of one mail
abbrev pub box_of : Draft → List ℕ
box_of d = codes "From -\n" ++ (mail_of d ++ (10 ∷ []))
