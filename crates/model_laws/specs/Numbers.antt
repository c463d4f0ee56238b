-- A page without the numbers of its mails.
use Rattle.std.specs.Prelude.{map}
use Rattle.mailbox_model.specs.declared.page.ChatPage.{ChatPage}
use Rattle.mailbox_model.specs.declared.row.Row.{Row}
use Rattle.mailbox_model.specs.declared.row.UpdateRow.{UpdateRow}

abbrev pub unnumbered_update : UpdateRow → UpdateRow
unnumbered_update u = record u { uid = 0 }

abbrev pub unnumbered_row : Row → Row
unnumbered_row r = record r { uid = 0; updates = map unnumbered_update r.updates }

-- what is printed of it differs from what is printed of the page in the numbers after # alone
abbrev pub unnumbered : ChatPage → ChatPage
unnumbered page = record page { rows = map unnumbered_row page.rows }
