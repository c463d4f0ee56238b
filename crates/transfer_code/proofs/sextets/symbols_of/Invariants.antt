use Rattle.std.proofs.Common.{◌≡◌, ◌++◌, filter, length}
use Rattle.transfer_code.specs.Base64.{is_symbol}
use Rattle.transfer_code.proofs.sextets.symbols_of.Given as goal

abbrev pub invariant-loop-left : goal.invariant-loop-left
invariant-loop-left l = l.symbols.items ++ filter is_symbol l.left ≡ filter is_symbol l.bytes

abbrev pub decreases-loop-left : goal.decreases-loop-left
decreases-loop-left l = length l.left
