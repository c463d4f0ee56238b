use Rattle.std.proofs.Common.{◌≡◌, true}
use Rattle.call_tests.proofs.links.wrong_row.Given as goal

abbrev pub invariant-loop-row : goal.invariant-loop-row
invariant-loop-row l = l.links.whole ≡ true
