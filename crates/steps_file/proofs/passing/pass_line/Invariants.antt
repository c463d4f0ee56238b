use Rattle.std.proofs.Common.{◌+◌, ◌-◌, ◌*◌, ◌≤◌, ℕ, List, length}
use Rattle.steps_file.specs.Passing.{HasNoLf}
use Rattle.steps_file.proofs.Passed.{Passed}
use Rattle.steps_file.proofs.passing.pass_line.Given as goal

abbrev pub invariant-loop-buffer : goal.invariant-loop-buffer
invariant-loop-buffer g l = record {
  later : g.S.Source.faults l.fn.source ≤ g.S.Source.faults l.source;
  passed : (passed : List ℕ) × Passed (g.S.Source.left l.fn.source) (g.S.Source.left l.source) l.fn.buffer l.buffer l.fn.trace l.trace passed l.line × HasNoLf passed;
}

abbrev pub decreases-loop-buffer : goal.decreases-loop-buffer
decreases-loop-buffer g l = 2 * (l.buffer.budget - l.buffer.taken) + length l.buffer.held
