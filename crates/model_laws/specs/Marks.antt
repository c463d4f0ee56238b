-- Pages without their marks.
use Rattle.std.specs.Prelude.{map}
use Rattle.mailbox_model.specs.declared.list.ListPage.{ListPage}
use Rattle.mailbox_model.specs.declared.list.ListRow.{ListRow}
use Rattle.mailbox_model.specs.declared.page.ChatPage.{ChatPage}
use Rattle.mailbox_model.specs.declared.row.Row.{Row}
use Rattle.mailbox_model.specs.declared.row.Mark.TheVariants.{New}

-- all of a row but its mark
abbrev pub but_mark : Row → Row
but_mark r = record r { mark = New }

abbrev pub unmarked : ChatPage → ChatPage
unmarked page = record page { rows = map but_mark page.rows }

-- all of a row of the list but how many are fresh
abbrev pub but_fresh : ListRow → ListRow
but_fresh r = record r { fresh = 0 }

abbrev pub uncounted : ListPage → ListPage
uncounted page = record page { rows = map but_fresh page.rows }
