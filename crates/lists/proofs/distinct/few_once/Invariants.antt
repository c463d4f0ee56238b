use Rattle.std.proofs.Common.{◌≡◌}
use Rattle.lists.specs.Distinct.{firsts}
use Rattle.lists.proofs.distinct.few_once.Given as goal

abbrev pub invariant-loop-value : goal.invariant-loop-value
invariant-loop-value g l = l.once.items ≡ firsts g.T.PartialEq.eq l.yielded
