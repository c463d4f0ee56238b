use Rattle.std.proofs.Common.{◌≡◌, take, string_bytes}
use Rattle.mailbox_model.specs.Printed.{contacts_text}
use Rattle.chat_print.proofs.contacts.contacts_text.Given as goal

abbrev pub invariant-loop-row : goal.invariant-loop-row
invariant-loop-row l = string_bytes l.text ≡ contacts_text (take l.row-index l.rows)
