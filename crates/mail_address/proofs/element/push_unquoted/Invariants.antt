use Rattle.std.proofs.Common.{◌≡◌, ◌++◌, false, drop}
use Rattle.mail_address.specs.Tokens.{unquoted}
use Rattle.mail_address.proofs.element.push_unquoted.Given as goal

abbrev pub invariant-loop-byte : goal.invariant-loop-byte
invariant-loop-byte l = l.out.items ++ unquoted l.escaped (drop l.byte-index l.inside) ≡ l.fn.out.items ++ unquoted false l.inside
