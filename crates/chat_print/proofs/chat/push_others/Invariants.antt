use Rattle.std.proofs.Common.{◌≡◌, ◌++◌, codes, take, flat_map, string_bytes}
use Rattle.mailbox_model.specs.Printed.{field}
use Rattle.chat_print.proofs.chat.push_others.Given as goal

abbrev pub invariant-loop-addr : goal.invariant-loop-addr
invariant-loop-addr l = string_bytes l.text ≡ string_bytes l.fn.text ++ field (flat_map (λ addr. codes ", " ++ addr) (take l.addr-index l.others))
