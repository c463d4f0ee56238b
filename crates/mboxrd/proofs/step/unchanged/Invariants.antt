use Rattle.std.specs.Prelude.{◌≤◌, ◌-◌, length, take, Some}
use Rattle.mboxrd.specs.LineStates.{StepsTo}
use Rattle.mboxrd.specs.declared.line_state.LineState.TheVariants.{Inside}
use Rattle.mboxrd.proofs.step.unchanged.Given as goal

abbrev pub invariant-loop-end : goal.invariant-loop-end
invariant-loop-end l = record {
  within : l.read ≤ length l.held;
  steps : StepsTo Inside (take l.read l.held) (take l.read l.held) (Some Inside);
}

abbrev pub decreases-loop-end : goal.decreases-loop-end
decreases-loop-end l = length l.held - l.read
