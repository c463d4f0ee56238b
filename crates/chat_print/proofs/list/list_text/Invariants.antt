use Rattle.std.proofs.Common.{◌≡◌, take, flat_map, string_bytes}
use Rattle.mailbox_model.specs.Printed.{list_line}
use Rattle.chat_print.proofs.list.list_text.Given as goal

abbrev pub invariant-loop-row : goal.invariant-loop-row
invariant-loop-row l = string_bytes l.text ≡ flat_map list_line (take l.row-index l.row-items)
