use Rattle.std.proofs.lemmas.Result.{err_from_is_err_and}
use Rattle.std.proofs.Common.{◌≡◌, ◌∙◌, Err, Some, ap, sym}
use Rattle.kit.specs.Ids.{is_id}
use Rattle.kit.specs.Reading.{read_as}
use Rattle.answers.proofs.UpdateAnswers.{heard_answer, not_printed, printed}
use Rattle.answers.proofs.print.print_the_updates.Goals as goal

pub returns-in_err-print_updates-clause-puts : goal.returns-in_err-print_updates-clause-puts
returns-in_err-print_updates-clause-puts g c =
    let m = c.args.engine.now.mailbox in
    let h = c.in_ok-heard.heard in
    let is : read_as is_id c.args.id.now ≡ Some c.in-Some.id = ap (read_as is_id) (sym c.bytes.ensures.same) ∙ sym c.in_ok-id.ensures ∙ c.in-Some.is in
    let new = c.new-listener.ensures in
    let heard = heard_answer m c.in-Some.id c.args.info h (rw new at c.in_ok-heard.ensures.shown) (rw new at c.in_ok-heard.ensures.back_to)
    (rw new at c.in_ok-heard.ensures.rows) (rw new at c.in_ok-heard.ensures.max) in
    let p = err_from_is_err_and c.from_residual-in_err-print_updates.result c.from_residual-in_err-print_updates.ensures.1 in
    rw (p.1, p.2) (not_printed m c.args.id.now c.in-Some.id c.args.info h _ _ c.in_err-print_updates.field-0.0 is heard (λ e. rw c.as_slice.ensures at c.in_err-print_updates.ensures.write (ap Err e)))

pub returns-clause-puts : goal.returns-clause-puts
returns-clause-puts g c =
    let m = c.args.engine.now.mailbox in
    let h = c.in_ok-heard.heard in
    let is : read_as is_id c.args.id.now ≡ Some c.in-Some.id = ap (read_as is_id) (sym c.bytes.ensures.same) ∙ sym c.in_ok-id.ensures ∙ c.in-Some.is in
    let new = c.new-listener.ensures in
    let heard = heard_answer m c.in-Some.id c.args.info h (rw new at c.in_ok-heard.ensures.shown) (rw new at c.in_ok-heard.ensures.back_to)
    (rw new at c.in_ok-heard.ensures.rows) (rw new at c.in_ok-heard.ensures.max) in
    printed m c.args.id.now c.in-Some.id c.args.info h _ _ is heard (rw c.as_slice.ensures at c.in_ok-print_updates.ensures.ok)
