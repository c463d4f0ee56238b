use Rattle.std.proofs.Common.{◌≡◌, length}
use Rattle.kit.specs.Chains.{cut_on}
use Rattle.kit.proofs.trace.Trace.add.Given as goal

-- what is left leads on to where all leads
abbrev pub invariant-loop-left : goal.invariant-loop-left
invariant-loop-left l = cut_on l.self l.left ≡ cut_on l.fn.self l.bytes

abbrev pub decreases-loop-left : goal.decreases-loop-left
decreases-loop-left l = length l.left
