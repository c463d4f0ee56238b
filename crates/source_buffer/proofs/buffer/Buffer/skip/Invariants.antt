use Rattle.std.proofs.Common.{◌-◌, ◌≤◌, length}
use Rattle.source_buffer.proofs.Dropped.{Dropped}
use Rattle.source_buffer.proofs.buffer.Buffer.skip.Given as goal

abbrev pub invariant-loop-dropped : goal.invariant-loop-dropped
invariant-loop-dropped g l = record {
  later : g.S.Source.faults l.fn.source ≤ g.S.Source.faults l.source;
  within : l.dropped ≤ l.count;
  fewer : length l.fn.self.held ≤ l.fn.self.taken → length l.self.held ≤ l.self.taken;
  dropped : Dropped (g.S.Source.left l.fn.source) (g.S.Source.left l.source) l.fn.self l.self l.fn.trace l.trace l.dropped;
}

abbrev pub decreases-loop-dropped : goal.decreases-loop-dropped
decreases-loop-dropped g l = l.count - l.dropped
