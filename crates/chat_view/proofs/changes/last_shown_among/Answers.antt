use Rattle.std.proofs.Common.{sym, ◌∙◌, ◌-◌, arith, true, false}
use Rattle.chat_view.proofs.Told.{last_shown_at}
use Rattle.chat_view.proofs.changes.last_shown_among.Goals as goal

pub returns-then-is_some : goal.returns-then-is_some
returns-then-is_some c =
    let loop = c.loop-index in
    let marks = c.args.marks.now in
    sym (loop.invariant.1 ∙ last_shown_at marks (loop.index - 1) loop.index true (omega arith) (omega arith) (sym c.is_some.ensures ∙ c.if-is_some.true))

pub loop-index-preserved : goal.loop-index-preserved
loop-index-preserved c =
    let loop = c.loop-index in
    let marks = c.args.marks.now in
    (omega (arith, loop.invariant.0), loop.invariant.1 ∙ last_shown_at marks (loop.index - 1) loop.index false (omega arith) (omega arith) (sym c.is_some.ensures ∙ c.if-is_some.false))
