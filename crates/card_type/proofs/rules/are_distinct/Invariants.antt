use Rattle.std.proofs.Common.{◌≡◌, length}
use Rattle.lists.specs.Distinct.{are_distinct}
use Rattle.card_type.proofs.rules.are_distinct.Given as goal

abbrev pub invariant-loop-first : goal.invariant-loop-first
invariant-loop-first l = are_distinct l.left ≡ are_distinct l.addrs

abbrev pub decreases-loop-first : goal.decreases-loop-first
decreases-loop-first l = length l.left
