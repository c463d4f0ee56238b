use Rattle.std.proofs.Common.{◌≡◌}
use Rattle.kit.specs.Fronts.{front}
use Rattle.kit.proofs.bytes.front_of.Given as goal

-- the number of the bytes so far
abbrev pub invariant-loop-index : goal.invariant-loop-index
invariant-loop-index l = l.front ≡ front l.index l.bytes
