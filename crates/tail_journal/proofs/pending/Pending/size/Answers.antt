use Rattle.std.proofs.Common.{ap, length, arith, length-drop}
use Rattle.tail_journal.specs.Spelling.{group_head}
use Rattle.tail_journal.proofs.pending.Pending.size.Goals as goal

pub returns : goal.returns
returns c =
    omega (arith, c.saturating_sub.ensures, c.len.ensures, length-drop group_head c.self.inside.group.items, ap (λ p. length p.bytes) c.self.view_is)
