use Rattle.std.proofs.Common.{◌≡◌, take, string_bytes}
use Rattle.mailbox_model.specs.Printed.{updates_text}
use Rattle.chat_print.proofs.updates.updates_text.Given as goal

abbrev pub invariant-loop-row : goal.invariant-loop-row
invariant-loop-row l = string_bytes l.text ≡ updates_text l.max (take l.row-index l.rows)
