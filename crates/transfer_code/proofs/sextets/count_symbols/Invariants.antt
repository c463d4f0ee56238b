use Rattle.std.proofs.Common.{◌≡◌, ◌+◌, length}
use Rattle.std.specs.List.{count_by}
use Rattle.transfer_code.specs.Base64.{is_symbol}
use Rattle.transfer_code.proofs.sextets.count_symbols.Given as goal

abbrev pub invariant-loop-left : goal.invariant-loop-left
invariant-loop-left l = l.count + count_by is_symbol l.left ≡ count_by is_symbol l.bytes

abbrev pub decreases-loop-left : goal.decreases-loop-left
decreases-loop-left l = length l.left
