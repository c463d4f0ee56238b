use Rattle.std.proofs.Common.{Err, Ok, ap, refl, sym, subst}
use Rattle.std.specs.Prelude.{Result}
use Rattle.std.proofs.lemmas.Result.{err_from_is_err_and}
use Rattle.outside.specs.Causes.{Rose}
use Rattle.answers.specs.Answers as asked
use Rattle.follower.specs.Reached.{Reached}
use Rattle.follower.specs.Spending.{counts}
use Rattle.mailbox_model.specs.Mailbox.{Mailbox}
use Rattle.follow.specs.Outcome.{Gave, Kept, given_of, replied, result}
use Rattle.follow.specs.Replies.{Puts}
use Rattle.follow.specs.Statuses.{answer_refusal}
use Rattle.follow.specs.declared.status.Refusal.{Refusal}
use Rattle.follow.proofs.Clocks.{AsksClock-weaker}
use Rattle.follow.proofs.Replied.{answer_apart, answer_last, answer_spends, no_cause, not_asked, not_words, not_written, puts_refusal, puts_whole, stops_last, stops_put}
use Rattle.follow.proofs.top.reply_to.Goals as goal

-- ---- the files are not followed to their end

pub returns-in-Err-clause-puts : goal.returns-in-Err-clause-puts
unfolding result
returns-in-Err-clause-puts g c = λ found told.
    let given = given_of c.args.me c.args.at found in
    let held = g.K.Sink.held c.args.out.now in
    let went = c.in-Err.ensures.goes found told in
    rw c.of_fault.ensures (stops_put c.args.question.now given (g.H.Shelf.may_leave c.follow_files.new.shelf) held held c.in-Err.fault went.1)

pub returns-in-Err-clause-crash : goal.returns-in-Err-clause-crash
returns-in-Err-clause-crash g c = λ found told. (c.in-Err.ensures.goes found told).0

pub returns-in-Err-clause-lasting : goal.returns-in-Err-clause-lasting
returns-in-Err-clause-lasting g c = λ found told.
    let given = given_of c.args.me c.args.at found in
    let went = c.in-Err.ensures.goes found told in
    rw c.of_fault.ensures (stops_last given (g.H.Shelf.may_leave c.follow_files.new.shelf) c.in-Err.fault went.1)

pub returns-in-Err-clause-no_usage : goal.returns-in-Err-clause-no_usage
returns-in-Err-clause-no_usage g c = rw c.of_fault.ensures (not_words c.args.me c.in-Err.fault)

pub returns-in-Err-clause-cause : goal.returns-in-Err-clause-cause
returns-in-Err-clause-cause g c = rw c.of_fault.ensures c.in-Err.ensures.cause

pub returns-in-Err-clause-clock : goal.returns-in-Err-clause-clock
returns-in-Err-clause-clock g c = AsksClock-weaker _ _ _ _ _ _ (λ never. absurd never) c.follow_files.ensures.clock

-- ---- the answer is refused

pub returns-in_err-printed-in-Ok-clause-puts : goal.returns-in_err-printed-in-Ok-clause-puts
unfolding result
returns-in_err-printed-in-Ok-clause-puts g c = λ found told.
    let p = err_from_is_err_and c.from_residual.result c.from_residual.ensures.1 in
    let q = c.args.question.now in
    let old = g.K.Sink.held c.args.out.now in
    let new = g.K.Sink.held c.print_answer-printed.new.out in
    let why = c.in_err-printed-in-Ok.field-0.0 in
    let went = c.in-Ok.ensures.goes found told in
    rw (p.1, p.2) (subst (λ (r : Result Reached Refusal). Puts (replied q r) old new (Err (answer_refusal why))) (sym went.1.0)
    (puts_refusal (asked.answer_of c.in-Ok.follower.keeper.state.mailbox q) old new why
    (subst (λ (m : Mailbox). asked.Puts (asked.answer_of m q) old new (Err why)) c.engine.ensures.mailbox c.in_err-printed-in-Ok.ensures.puts)))

pub returns-in_err-printed-in-Ok-clause-crash : goal.returns-in_err-printed-in-Ok-clause-crash
returns-in_err-printed-in-Ok-clause-crash g c = λ found told. (c.in-Ok.ensures.goes found told).0

pub returns-in_err-printed-in-Ok-clause-lasting : goal.returns-in_err-printed-in-Ok-clause-lasting
returns-in_err-printed-in-Ok-clause-lasting g c = λ found told.
    let p = err_from_is_err_and c.from_residual.result c.from_residual.ensures.1 in
    let given = given_of c.args.me c.args.at found in
    let went = c.in-Ok.ensures.goes found told in
    rw (p.1, p.2) (answer_last given (g.H.Shelf.may_leave c.follow_files.new.shelf) c.in_err-printed-in-Ok.field-0.0 went.1.1)

pub returns-in_err-printed-in-Ok-clause-nothing : goal.returns-in_err-printed-in-Ok-clause-nothing
returns-in_err-printed-in-Ok-clause-nothing g c =
    let p = err_from_is_err_and c.from_residual.result c.from_residual.ensures.1 in
    rw (p.1, p.2) (λ not_write. c.in_err-printed-in-Ok.ensures.nothing (λ is. not_write (ap answer_refusal is)))

pub returns-in_err-printed-in-Ok-clause-cause : goal.returns-in_err-printed-in-Ok-clause-cause
returns-in_err-printed-in-Ok-clause-cause g c =
    let p = err_from_is_err_and c.from_residual.result c.from_residual.ensures.1 in
    let M = g.M.Source in
    let S = g.S.Source in
    let H = g.H.Shelf in
    rw (p.1, p.2) (no_cause _ _ (Rose (H.faults c.args.shelf.now) (H.faults c.follow_files.new.shelf)) (Gave (M.left c.args.mbox.now) (M.left c.follow_files.new.mbox))
    (Gave (S.left c.args.steps_file.now) (S.left c.follow_files.new.steps_file)) (Kept c.args.me (H.seen c.args.shelf.now)) c.in_err-printed-in-Ok.field-0.0)

pub returns-in_err-printed-in-Ok-clause-no_usage : goal.returns-in_err-printed-in-Ok-clause-no_usage
returns-in_err-printed-in-Ok-clause-no_usage g c =
    let p = err_from_is_err_and c.from_residual.result c.from_residual.ensures.1 in
    rw (p.1, p.2) (not_asked c.in_err-printed-in-Ok.field-0.0)

pub returns-in_err-printed-in-Ok-clause-write : goal.returns-in_err-printed-in-Ok-clause-write
returns-in_err-printed-in-Ok-clause-write g c =
    let p = err_from_is_err_and c.from_residual.result c.from_residual.ensures.1 in
    let why = c.in_err-printed-in-Ok.field-0.0 in
    rw (p.1, p.2) (λ is. c.in_err-printed-in-Ok.ensures.cause (ap Err (not_written (Err (answer_refusal why)) why refl is)))

-- ---- the answer is put

pub returns-in_ok-printed-in-Ok-clause-puts : goal.returns-in_ok-printed-in-Ok-clause-puts
unfolding result
returns-in_ok-printed-in-Ok-clause-puts g c = λ found told.
    let q = c.args.question.now in
    let old = g.K.Sink.held c.args.out.now in
    let new = g.K.Sink.held c.print_answer-printed.new.out in
    let went = c.in-Ok.ensures.goes found told in
    subst (λ (r : Result Reached Refusal). Puts (replied q r) old new (Ok tt)) (sym went.1.0)
    (puts_whole (asked.answer_of c.in-Ok.follower.keeper.state.mailbox q) old new tt tt
    (subst (λ (m : Mailbox). asked.Puts (asked.answer_of m q) old new (Ok tt)) c.engine.ensures.mailbox c.in_ok-printed-in-Ok.ensures.puts))

pub returns-in_ok-printed-in-Ok-clause-crash : goal.returns-in_ok-printed-in-Ok-clause-crash
returns-in_ok-printed-in-Ok-clause-crash g c = λ found told. (c.in-Ok.ensures.goes found told).0

pub returns-in_ok-printed-in-Ok-clause-lasting : goal.returns-in_ok-printed-in-Ok-clause-lasting
returns-in_ok-printed-in-Ok-clause-lasting g c = λ found told. (c.in-Ok.ensures.goes found told).1.1

-- ---- what is read and written

pub returns-in-Err-clause-cost : goal.returns-in-Err-clause-cost
returns-in-Err-clause-cost g c = λ found told.
    let written = g.H.Shelf.written in
    let after = c.follow_files.new in
    answer_apart c.args.question.now (given_of c.args.me c.args.at found) (counts c.args.steps.now (written c.args.shelf.now)) (counts after.steps (written after.shelf)) (c.in-Err.ensures.spends found told)

pub returns-in_err-printed-in-Ok-clause-cost : goal.returns-in_err-printed-in-Ok-clause-cost
returns-in_err-printed-in-Ok-clause-cost g c = λ found told.
    let written = g.H.Shelf.written in
    let given = given_of c.args.me c.args.at found in
    let went = c.in-Ok.ensures.goes found told in
    let after = c.follow_files.new in
    answer_spends c.args.question.now given c.in-Ok.follower.keeper.state c.engine.result.now.mailbox (counts c.args.steps.now (written c.args.shelf.now)) (counts after.steps (written after.shelf))
    (counts c.print_answer-printed.new.steps (written after.shelf)) went.1.0 c.engine.ensures.mailbox (c.in-Ok.ensures.spends found told) c.in_err-printed-in-Ok.ensures.cost refl

pub returns-in_ok-printed-in-Ok-clause-cost : goal.returns-in_ok-printed-in-Ok-clause-cost
returns-in_ok-printed-in-Ok-clause-cost g c = λ found told.
    let written = g.H.Shelf.written in
    let given = given_of c.args.me c.args.at found in
    let went = c.in-Ok.ensures.goes found told in
    let after = c.follow_files.new in
    answer_spends c.args.question.now given c.in-Ok.follower.keeper.state c.engine.result.now.mailbox (counts c.args.steps.now (written c.args.shelf.now)) (counts after.steps (written after.shelf))
    (counts c.print_answer-printed.new.steps (written after.shelf)) went.1.0 c.engine.ensures.mailbox (c.in-Ok.ensures.spends found told) c.in_ok-printed-in-Ok.ensures.cost refl
