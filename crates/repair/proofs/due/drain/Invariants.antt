use Rattle.std.proofs.Common.{length}
use Rattle.repair.proofs.Draining.{IsDrained}
use Rattle.repair.proofs.due.drain.Given as goal

-- those that are taken out so far are due
abbrev pub invariant-loop-uid : goal.invariant-loop-uid
invariant-loop-uid g l = IsDrained l.mailbox.mailbox l.now l.fn.timers l.timers l.fn.ids.keys l.ids.keys l.fn.steps l.steps

abbrev pub decreases-loop-uid : goal.decreases-loop-uid
decreases-loop-uid g l = length l.timers
