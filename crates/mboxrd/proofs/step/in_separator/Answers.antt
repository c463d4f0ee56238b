use Rattle.mboxrd.proofs.Stepping.{steps_separator, steps_separator_line}
use Rattle.mboxrd.proofs.step.in_separator.Goals as goal

pub returns-in-Some-clause-steps : goal.returns-in-Some-clause-steps
returns-in-Some-clause-steps c = steps_separator_line c.args.held.now c.memchr.result c.in-Some.end c.memchr.ensures c.in-Some.is

pub returns-in-None-clause-steps : goal.returns-in-None-clause-steps
returns-in-None-clause-steps c = steps_separator c.args.held.now c.memchr.result c.memchr.ensures c.in-None.is
