use Rattle.std.proofs.lemmas.Result.{err_from_is_err_and}
use Rattle.std.proofs.Common.{Err, ap}
use Rattle.trial.specs.Summaries.{trial_text}
use Rattle.trial.proofs.PutLaws.{line_not_put, memory_alone, memory_put, write_alone}
use Rattle.trial.proofs.print.print_trial.Goals as goal

pub returns-in_err-summary-clause-puts : goal.returns-in_err-summary-clause-puts
returns-in_err-summary-clause-puts g c =
    let p = err_from_is_err_and c.from_residual-in_err-summary.result c.from_residual-in_err-summary.ensures.1 in
    rw (p.1, p.2) (memory_put (trial_text c.args.me c.args.number) _ _)

pub returns-in_err-print_summary-clause-puts : goal.returns-in_err-print_summary-clause-puts
returns-in_err-print_summary-clause-puts g c =
    let p = err_from_is_err_and c.from_residual-in_err-print_summary.result c.from_residual-in_err-print_summary.ensures.1 in
    rw (p.1, p.2) (line_not_put c.args.me c.args.number c.in_ok-engine.engine.mailbox c.in_ok-summary.summary _ _ c.in_err-print_summary.field-0.0
    c.in_ok-engine.ensures.made c.in_ok-summary.ensures.summary (λ e. c.in_err-print_summary.ensures.write (ap Err e)))

pub returns-in_err-print_summary-clause-nothing : goal.returns-in_err-print_summary-clause-nothing
returns-in_err-print_summary-clause-nothing g c =
    let p = err_from_is_err_and c.from_residual-in_err-print_summary.result c.from_residual-in_err-print_summary.ensures.1 in
    rw (p.1, p.2) (λ other. c.in_err-print_summary.ensures.memory (ap Err (memory_alone c.in_err-print_summary.field-0.0 other)))

pub returns-in_err-print_summary-clause-cause : goal.returns-in_err-print_summary-clause-cause
returns-in_err-print_summary-clause-cause g c =
    let p = err_from_is_err_and c.from_residual-in_err-print_summary.result c.from_residual-in_err-print_summary.ensures.1 in
    rw (p.1, p.2) (λ e. c.in_err-print_summary.ensures.cause (ap Err (write_alone c.in_err-print_summary.field-0.0 (cc))))
