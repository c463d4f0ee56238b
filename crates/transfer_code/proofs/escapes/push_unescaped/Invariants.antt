use Rattle.std.proofs.Common.{◌≡◌, ◌-◌, ◌++◌, drop, length}
use Rattle.transfer_code.specs.Escapes.{unescaped}
use Rattle.transfer_code.proofs.escapes.push_unescaped.Given as goal

abbrev pub invariant-loop-i : goal.invariant-loop-i
invariant-loop-i l = l.out.items ++ unescaped (drop l.i l.bytes) ≡ l.fn.out.items ++ unescaped l.bytes

abbrev pub decreases-loop-i : goal.decreases-loop-i
decreases-loop-i l = length l.bytes - l.i
