use Rattle.std.proofs.Common.{◌≡◌, length}
use Rattle.kit.specs.White.{trim_end}
use Rattle.kit.proofs.white.trim_end.Given as goal

abbrev pub invariant-loop-bytes : goal.invariant-loop-bytes
invariant-loop-bytes l = trim_end l.bytes ≡ trim_end l.fn.bytes

abbrev pub decreases-loop-bytes : goal.decreases-loop-bytes
decreases-loop-bytes l = length l.bytes
