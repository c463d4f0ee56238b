-- The body of a row: its text, on one line.
use Rattle.std.specs.Prelude.{Bool, not, ◌||◌, if◌then◌else◌, [], ◌++◌, codes}
use Rattle.card_type.specs.Kinds.{has_some}
use Rattle.mailbox_model.specs.declared.row.Row.{Row}
use Rattle.mailbox_model.specs.Lists.{Bytes}

abbrev pub where_true : Bool → Bytes → Bytes
where_true test text = if test then text else []

-- the subject of a mail that no chat program sent, in brackets, and then the text
abbrev pub text_with_subject : Row → Bytes
text_with_subject r =
    if r.chat || not (has_some r.subject) then r.text
    else codes "[" ++ r.subject ++ codes "]" ++ where_true (has_some r.text) (codes " " ++ r.text)

abbrev pub body : Row → Bytes
body r =
    let text = text_with_subject r ++ where_true r.cut (codes " [cut]") ++ where_true r.edited (codes " [edited]") in
    if has_some text then text else codes "(no text)"
