use Rattle.std.proofs.Common.{◌+◌, ◌-◌, ◌*◌, ◌≤◌, length}
use Rattle.mboxrd.specs.LineStates.{IsLineState}
use Rattle.mboxrd.proofs.Progress.{Progress}
use Rattle.mboxrd.proofs.separator.read_to_separator.Given as goal

abbrev pub invariant-loop-buffer : goal.invariant-loop-buffer
invariant-loop-buffer g l = record {
  later : g.S.Source.faults l.fn.source ≤ g.S.Source.faults l.source;
  state : IsLineState l.state;
  progress : Progress (g.S.Source.left l.fn.source) (g.S.Source.left l.source) l.fn.buffer l.buffer l.fn.mail l.mail l.fn.trace l.trace l.fn.start l.state;
}

abbrev pub decreases-loop-buffer : goal.decreases-loop-buffer
decreases-loop-buffer g l = 2 * (l.buffer.budget - l.buffer.taken) + length l.buffer.held
