use Rattle.std.proofs.Common.{◌≡◌, true}
use Rattle.call_tests.proofs.links.naming.Given as goal

abbrev pub invariant-loop-coming : goal.invariant-loop-coming
invariant-loop-coming l = l.links.whole ≡ true
