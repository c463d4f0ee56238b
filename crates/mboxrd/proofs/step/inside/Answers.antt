use Rattle.std.proofs.Common.{take}
use Rattle.mboxrd.proofs.step.inside.Goals as goal

pub returns-clause-steps : goal.returns-clause-steps
returns-clause-steps c = (take c.unchanged-step.result.read c.args.held.now, c.in_ok-keep.ensures, c.unchanged-step.ensures.steps)
