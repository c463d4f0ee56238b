use Rattle.tail_journal.proofs.Waiting.{none_held}
use Rattle.tail_journal.proofs.pending.Pending.clear.Goals as goal

pub invariant_of-self : goal.invariant_of-self
invariant_of-self c = none_held c.clear.new.self.items c.clear.ensures.items
