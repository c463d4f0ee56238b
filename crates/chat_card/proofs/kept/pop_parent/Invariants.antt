use Rattle.std.proofs.Common.{◌≡◌}
use Rattle.std.specs.Prelude.{reverse}
use Rattle.chat_card.specs.Walks.{closed}
use Rattle.chat_card.proofs.kept.pop_parent.Given as goal

abbrev pub invariant-loop-parent : goal.invariant-loop-parent
invariant-loop-parent l = closed l.depth (reverse l.parents.items) ≡ closed l.depth (reverse l.fn.parents.items)

abbrev pub decreases-loop-parent : goal.decreases-loop-parent
decreases-loop-parent l = goal.left-loop-parent l
