use Rattle.std.proofs.Common.{◌≡◌, ◌++◌, take, flat_map, string_bytes}
use Rattle.mailbox_model.specs.Printed.{reader_line}
use Rattle.chat_print.proofs.chat.push_readers.Given as goal

abbrev pub invariant-loop-reader : goal.invariant-loop-reader
invariant-loop-reader l = string_bytes l.text ≡ string_bytes l.fn.text ++ flat_map reader_line (take l.reader-index l.readers)
