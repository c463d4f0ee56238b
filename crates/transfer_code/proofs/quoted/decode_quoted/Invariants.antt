use Rattle.std.proofs.Common.{◌≡◌, ◌++◌, length}
use Rattle.transfer_code.specs.Quoted.{decode_quoted}
use Rattle.transfer_code.proofs.quoted.decode_quoted.Given as goal

abbrev pub invariant-loop-raw : goal.invariant-loop-raw
invariant-loop-raw l = l.out.items ++ decode_quoted l.left ≡ decode_quoted l.bytes

abbrev pub decreases-loop-raw : goal.decreases-loop-raw
decreases-loop-raw l = length l.left
