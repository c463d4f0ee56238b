use Rattle.std.proofs.Common.{length, ap}
use Rattle.tail_journal.proofs.tail.Tail.read.Goals as goal

pub returns-in_ok-size-in-Some-clause-known : goal.returns-in_ok-size-in-Some-clause-known
returns-in_ok-size-in-Some-clause-known g c places is = record { settled = c.in_ok-size-in-Some.ensures.settled places is; size = c.in_ok-size-in-Some.ensures.size places is }

pub returns-in_ok-empty-in-None-clause-known : goal.returns-in_ok-empty-in-None-clause-known
returns-in_ok-empty-in-None-clause-known g c places is = record { settled = c.in_ok-empty-in-None.ensures.settled places is; size = ap length (c.in_ok-empty-in-None.ensures.ends places is) }
