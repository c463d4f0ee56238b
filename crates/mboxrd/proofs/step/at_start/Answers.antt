use Rattle.std.proofs.Common.{rules, [], ◌∷◌, ◌++◌, sym, ◌∙◌}
use Rattle.mboxrd.specs.LineStates.{withheld_line}
use Rattle.source_buffer.proofs.Prefixes.{Keeps_more, Keeps_none, Keeps_as}
use Rattle.mboxrd.proofs.Stepping.{steps_may, steps_start_lf, steps_start_cr, steps_start_quote, steps_start_other}
use Rattle.mboxrd.proofs.step.at_start.Goals as goal

pub returns-then-may_begin_separator-clause-steps : goal.returns-then-may_begin_separator-clause-steps
returns-then-may_begin_separator-clause-steps c = ([], Keeps_none c.args.mail.now, steps_may c.args.preceding c.args.b (sym c.may_begin_separator.ensures ∙ c.if-may_begin_separator.true))

pub returns-in-10-clause-steps : goal.returns-in-10-clause-steps
returns-in-10-clause-steps c = (withheld_line c.args.preceding, Keeps_as c.args.mail.now c.keep.new.self c.withheld_line.result.now (withheld_line c.args.preceding) c.withheld_line.ensures c.in_ok-keep.ensures, steps_start_lf c.args.preceding c.args.b c.in-10.is)

pub returns-in-13-clause-steps : goal.returns-in-13-clause-steps
returns-in-13-clause-steps c = (withheld_line c.args.preceding, Keeps_as c.args.mail.now c.keep.new.self c.withheld_line.result.now (withheld_line c.args.preceding) c.withheld_line.ensures c.in_ok-keep.ensures, steps_start_cr c.args.preceding c.args.b c.in-13.is)

pub returns-in-62-clause-steps : goal.returns-in-62-clause-steps
returns-in-62-clause-steps c = (withheld_line c.args.preceding, Keeps_as c.args.mail.now c.keep.new.self c.withheld_line.result.now (withheld_line c.args.preceding) c.withheld_line.ensures c.in_ok-keep.ensures, steps_start_quote c.args.preceding c.args.b c.in-62.is)

pub returns-in_ok-keep-in_default-clause-steps : goal.returns-in_ok-keep-in_default-clause-steps
returns-in_ok-keep-in_default-clause-steps c = (
  withheld_line c.args.preceding ++ (c.args.b ∷ []),
  Keeps_more c.args.mail.now c.keep.new.self c.keep-in_default.new.self (withheld_line c.args.preceding) (c.args.b ∷ [])
      (Keeps_as c.args.mail.now c.keep.new.self c.withheld_line.result.now (withheld_line c.args.preceding) c.withheld_line.ensures c.in_ok-keep.ensures) c.in_ok-keep-in_default.ensures,
  steps_start_other c.args.preceding c.args.b (search rules) (search rules) (search rules) (sym c.may_begin_separator.ensures ∙ c.if-may_begin_separator.false),
)
