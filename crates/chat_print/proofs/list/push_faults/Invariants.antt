use Rattle.std.proofs.Common.{◌≡◌, ◌++◌, take, flat_map, string_bytes}
use Rattle.mailbox_model.specs.Printed.{fault_line}
use Rattle.chat_print.proofs.list.push_faults.Given as goal

abbrev pub invariant-loop-row : goal.invariant-loop-row
invariant-loop-row l = string_bytes l.text ≡ string_bytes l.fn.text ++ flat_map fault_line (take l.row-index l.faults)
