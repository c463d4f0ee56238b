use Rattle.std.proofs.Common.{ap, arith}
use Rattle.tail_journal.proofs.Waiting.{one_held}
use Rattle.tail_journal.proofs.pending.Pending.push.Goals as goal

pub invariant_of-self : goal.invariant_of-self
invariant_of-self c =
    one_held c.self.inside.count c.self.inside.group.items c.append_after_head.new.group.items c.args.change.now c.self.invariant c.a_valid_change_fits.ensures
    (omega (arith, c.requires.few, ap (λ p. p.count) c.self.view_is)) c.in-Ok.ensures.changes c.in-Ok.ensures.head
