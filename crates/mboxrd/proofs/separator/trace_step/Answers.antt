use Rattle.std.proofs.Common.{sym, ◌∙◌}
use Rattle.mboxrd.specs.Traced.{held_back, held_back_at}
use Rattle.mboxrd.proofs.Tracing.{back_all, back_none_at, holds_all}
use Rattle.mboxrd.proofs.separator.trace_step.Goals as goal

pub returns-then-holds_any : goal.returns-then-holds_any
returns-then-holds_any c =
    back_all (held_back c.args.state) c.args.read.now (held_back_at c.args.next) c.args.trace.now
    (holds_all c.args.state c.args.read.now c.args.next c.requires.back (sym c.holds_any.ensures ∙ c.if-holds_any.true))

pub returns : goal.returns
returns c =
    back_none_at c.args.state c.held_back.result.now c.args.read.now c.args.next c.args.trace.now c.add.new.self c.add-2.new.self
    (sym c.holds_any.ensures ∙ c.if-holds_any.false) c.held_back.ensures c.add.ensures.stands c.add-2.ensures.stands
