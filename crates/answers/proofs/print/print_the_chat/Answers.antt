use Rattle.std.proofs.lemmas.Result.{err_from_is_err_and}
use Rattle.std.proofs.Common.{◌≡◌, ◌≢◌, refl, Err, ap}
use Rattle.outside.specs.declared.faults.PrintFault.{PrintFault}
use Rattle.outside.specs.declared.faults.PrintFault.TheVariants as printing
use Rattle.answers.specs.Answers.{print_fault}
use Rattle.answers.specs.declared.fault.AnswerFault.TheVariants as fault
use Rattle.answers.proofs.AnswerCosts.{within_cost}
use Rattle.answers.proofs.ChatAnswers.{its_key, no_answer, no_key, not_asked, not_printed, printed}
use Rattle.answers.proofs.print.print_the_chat.Goals as goal

pub returns-in_default-clause-puts : goal.returns-in_default-clause-puts
returns-in_default-clause-puts g c =
    no_answer c.args.engine.now.mailbox c.args.text.now _ _ c.keeps_rules.ensures (no_key c.in_ok-key.field-0 c.bytes.result.now c.args.text.now c.in_default.is c.bytes.ensures.same c.in_ok-key.ensures.none)

pub returns-in_err-page-clause-puts : goal.returns-in_err-page-clause-puts
returns-in_err-page-clause-puts g c =
    let p = err_from_is_err_and c.from_residual-in_err-page.result c.from_residual-in_err-page.ensures.1 in
    let key = its_key c.in_ok-key.field-0 c.in-Some.key c.bytes.result.now c.args.text.now c.in-Some.is c.bytes.ensures.same c.in_ok-key.ensures.text in
    rw (p.1, p.2) (not_asked c.args.engine.now c.in-Some.key c.args.text.now _ _ c.in_err-page.field-0.0 key c.in_err-page.ensures.cause)

pub returns-in_err-print_chat-clause-puts : goal.returns-in_err-print_chat-clause-puts
returns-in_err-print_chat-clause-puts g c =
    let p = err_from_is_err_and c.from_residual-in_err-print_chat.result c.from_residual-in_err-print_chat.ensures.1 in
    let key = its_key c.in_ok-key.field-0 c.in-Some.key c.bytes.result.now c.args.text.now c.in-Some.is c.bytes.ensures.same c.in_ok-key.ensures.text in
    rw (p.1, p.2) (not_printed c.args.engine.now.mailbox c.in-Some.key c.args.text.now c.in_ok-page.page _ _ c.in_err-print_chat.field-0.0 key c.in_ok-page.ensures.page
    (λ e. c.in_err-print_chat.ensures.write (ap Err e)))

pub returns-clause-puts : goal.returns-clause-puts
returns-clause-puts g c =
    let key = its_key c.in_ok-key.field-0 c.in-Some.key c.bytes.result.now c.args.text.now c.in-Some.is c.bytes.ensures.same c.in_ok-key.ensures.text in
    printed c.args.engine.now.mailbox c.in-Some.key c.args.text.now c.in_ok-page.page _ _ key c.in_ok-page.ensures.page c.in_ok-print_chat.ensures.ok

pub returns-in_err-page-clause-cost : goal.returns-in_err-page-clause-cost
returns-in_err-page-clause-cost g c =
    let key = its_key c.in_ok-key.field-0 c.in-Some.key c.bytes.result.now c.args.text.now c.in-Some.is c.bytes.ensures.same c.in_ok-key.ensures.text in
    within_cost c.args.engine.now.mailbox c.in-Some.key c.args.text.now c.args.steps.now c.chat.new.steps key c.in_err-page.ensures.cost

pub returns-in_err-print_chat-clause-cost : goal.returns-in_err-print_chat-clause-cost
returns-in_err-print_chat-clause-cost g c =
    let key = its_key c.in_ok-key.field-0 c.in-Some.key c.bytes.result.now c.args.text.now c.in-Some.is c.bytes.ensures.same c.in_ok-key.ensures.text in
    within_cost c.args.engine.now.mailbox c.in-Some.key c.args.text.now c.args.steps.now c.chat.new.steps key c.in_ok-page.ensures.cost

pub returns-clause-cost : goal.returns-clause-cost
returns-clause-cost g c =
    let key = its_key c.in_ok-key.field-0 c.in-Some.key c.bytes.result.now c.args.text.now c.in-Some.is c.bytes.ensures.same c.in_ok-key.ensures.text in
    within_cost c.args.engine.now.mailbox c.in-Some.key c.args.text.now c.args.steps.now c.chat.new.steps key c.in_ok-page.ensures.cost

-- the sink failed exactly where the answer says so
wrote : (f : PrintFault) → print_fault f ≡ fault.Write → f ≡ printing.Write
wrote printing.Write h = refl
wrote printing.Memory h = cc

unwritten : (f : PrintFault) → print_fault f ≢ fault.Write → f ≡ printing.Memory
unwritten printing.Write h = absurd (h refl)
unwritten printing.Memory h = refl

pub returns-in_err-print_chat-clause-cause : goal.returns-in_err-print_chat-clause-cause
returns-in_err-print_chat-clause-cause g c =
    let p = err_from_is_err_and c.from_residual-in_err-print_chat.result c.from_residual-in_err-print_chat.ensures.1 in
    rw (p.1, p.2) (λ is. c.in_err-print_chat.ensures.cause (ap Err (wrote c.in_err-print_chat.field-0.0 (let same : print_fault c.in_err-print_chat.field-0.0 ≡ fault.Write = cc in same))))

pub returns-in_err-print_chat-clause-nothing : goal.returns-in_err-print_chat-clause-nothing
returns-in_err-print_chat-clause-nothing g c =
    let p = err_from_is_err_and c.from_residual-in_err-print_chat.result c.from_residual-in_err-print_chat.ensures.1 in
    rw (p.1, p.2) (λ other. c.in_err-print_chat.ensures.memory (ap Err (unwritten c.in_err-print_chat.field-0.0 other)))
