use Rattle.std.proofs.Common.{◌≡◌, take}
use Rattle.compose.proofs.intended.copies.Given as goal

abbrev pub invariant-loop-addr : goal.invariant-loop-addr
invariant-loop-addr l = l.copies.items ≡ take l.addr-index l.addrs
