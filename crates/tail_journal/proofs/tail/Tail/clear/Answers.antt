use Rattle.std.proofs.Common.{length, ap}
use Rattle.tail_journal.proofs.tail.Tail.clear.Goals as goal

pub returns-in-Ok-clause-cleared : goal.returns-in-Ok-clause-cleared
returns-in-Ok-clause-cleared g c places is = (c.in-Ok.ensures.cut.back places is).holds.2

pub returns-in-Ok-clause-known : goal.returns-in-Ok-clause-known
returns-in-Ok-clause-known g c places is = record { settled = c.in-Ok.ensures.settled places is; size = ap length (c.in-Ok.ensures.cut.back places is).holds.2 }
