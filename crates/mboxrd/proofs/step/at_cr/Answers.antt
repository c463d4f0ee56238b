use Rattle.std.proofs.Common.{[], ◌∷◌}
use Rattle.source_buffer.proofs.Prefixes.{Keeps_more, Keeps_none}
use Rattle.mboxrd.proofs.Stepping.{steps_cr_lf, steps_cr_other}
use Rattle.mboxrd.proofs.step.at_cr.Goals as goal

pub returns-then-b-eq10-clause-steps : goal.returns-then-b-eq10-clause-steps
returns-then-b-eq10-clause-steps c = ([], Keeps_none c.args.mail.now, steps_cr_lf c.args.b c.if-b-eq10.true)

pub returns-clause-steps : goal.returns-clause-steps
returns-clause-steps c = (13 ∷ c.args.b ∷ [], Keeps_more c.args.mail.now c.keep.new.self c.keep-2.new.self (13 ∷ []) (c.args.b ∷ []) c.in_ok-keep.ensures c.in_ok-keep-2.ensures, steps_cr_other c.args.b c.if-b-eq10.false)
