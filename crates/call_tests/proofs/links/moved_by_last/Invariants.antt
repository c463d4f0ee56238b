use Rattle.std.proofs.Common.{◌≡◌, true}
use Rattle.call_tests.proofs.links.moved_by_last.Given as goal

abbrev pub invariant-loop-before : goal.invariant-loop-before
invariant-loop-before l = l.links.whole ≡ true
