use Rattle.std.proofs.Common.{length, sym, ◌∙◌}
use Rattle.tail_journal.proofs.FirstFrame.{of_no_bytes, of_a_closed_gate, of_no_frame, of_a_frame, is_nothing, is_something}
use Rattle.tail_journal.proofs.frames.first_frame.Goals as goal

pub returns-then-is_empty-clause-none : goal.returns-then-is_empty-clause-none
returns-then-is_empty-clause-none c = of_no_bytes c.args.bytes.now (is_nothing (length c.args.bytes.now) (sym c.is_empty.ensures ∙ c.if-is_empty.true))

pub returns-then-bytes-ne1-clause-none : goal.returns-then-bytes-ne1-clause-none
returns-then-bytes-ne1-clause-none c = of_a_closed_gate c.args.bytes.now c.if-bytes-ne1.true

pub returns-in-Some-clause-some : goal.returns-in-Some-clause-some
returns-in-Some-clause-some c =
    of_a_frame c.args.bytes.now c.after.result.now c.in-Some.frame.0 c.in-Some.frame.1.now c.if-bytes-ne1.false c.after.ensures (is_something (length c.args.bytes.now) (sym c.is_empty.ensures ∙ c.if-is_empty.false)) c.in-Some.ensures.some

pub returns-in-None-clause-none : goal.returns-in-None-clause-none
returns-in-None-clause-none c =
    of_no_frame c.args.bytes.now c.after.result.now c.if-bytes-ne1.false c.after.ensures (is_something (length c.args.bytes.now) (sym c.is_empty.ensures ∙ c.if-is_empty.false)) c.in-None.ensures.none
