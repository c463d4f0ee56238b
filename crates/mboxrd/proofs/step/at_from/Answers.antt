use Rattle.std.proofs.Common.{[], ◌∷◌, ◌++◌, take}
use Rattle.mboxrd.specs.Remaining.{from_text}
use Rattle.mboxrd.specs.LineStates.{withheld_line}
use Rattle.source_buffer.proofs.Prefixes.{Keeps_none, Keeps_three, Keeps_as}
use Rattle.mboxrd.proofs.Stepping.{steps_from, steps_cut, steps_from_other}
use Rattle.mboxrd.proofs.step.at_from.Goals as goal

pub returns-then-k-eq4-clause-steps : goal.returns-then-k-eq4-clause-steps
returns-then-k-eq4-clause-steps c = ([], Keeps_none c.args.mail.now, steps_cut c.args.preceding c.args.k c.args.b c.if-k-eq4.true c.if-b-k.true)

pub returns-else-k-eq4-clause-steps : goal.returns-else-k-eq4-clause-steps
returns-else-k-eq4-clause-steps c = ([], Keeps_none c.args.mail.now, steps_from c.args.preceding c.args.k c.args.b c.requires c.if-k-eq4.false c.if-b-k.true)

pub returns-clause-steps : goal.returns-clause-steps
returns-clause-steps c =
    let added = withheld_line c.args.preceding ++ (take c.args.k from_text ++ (c.args.b ∷ [])) in (
      added,
      Keeps_three c.args.mail.now c.keep.new.self c.keep-2.new.self c.keep-3.new.self (withheld_line c.args.preceding) (take c.args.k from_text) (c.args.b ∷ [])
          (Keeps_as c.args.mail.now c.keep.new.self c.withheld_line.result.now (withheld_line c.args.preceding) c.withheld_line.ensures c.in_ok-keep.ensures)
          c.in_ok-keep-2.ensures c.in_ok-keep-3.ensures,
      rw c.state_after.ensures.after (steps_from_other c.args.preceding c.args.k c.args.b c.requires c.if-b-k.false),
    )
