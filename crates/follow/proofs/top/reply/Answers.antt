use Rattle.std.proofs.Common.{rules, ◌≡◌, refl, sym, ◌∙◌, Some, arith}
use Rattle.std.proofs.lemmas.Result.{err_from_is_err_and}
use Rattle.outside.specs.Causes.{Rose}
use Rattle.trial.specs.Summaries.{trial_text}
use Rattle.follow.specs.Outcome.{Gave, KeptBy}
use Rattle.follow.specs.Words.{request}
use Rattle.follow.specs.declared.words.Command.TheVariants as command
use Rattle.follow.proofs.Clocks.{ended_before}
use Rattle.follow.proofs.Refused.{last_of_memory, last_of_usage, untouched_leaves}
use Rattle.follow.proofs.Replied.{free_of_memory, trial_cause, trial_refused, trial_whole}
use Rattle.follow.proofs.top.reply.Goals as goal

-- ---- memory ran out for the words

pub returns-in_err-request-clause-puts : goal.returns-in_err-request-clause-puts
returns-in_err-request-clause-puts g c = λ found told.
    let p = err_from_is_err_and c.from_residual.result c.from_residual.ensures.1 in
    rw (p.1, p.2) (free_of_memory _ _ _)

pub returns-in_err-request-clause-clock : goal.returns-in_err-request-clause-clock
returns-in_err-request-clause-clock g c = ended_before _ _ _ _ (search rules)

pub returns-in_err-request-clause-crash : goal.returns-in_err-request-clause-crash
returns-in_err-request-clause-crash g c = λ found told.
    let H = g.H.Shelf in
    let shelf = c.args.shelf.now in
    untouched_leaves H.moment H.left_since shelf (H.may_leave shelf) (g.met.H.Shelf.only_now shelf) _

pub returns-in_err-request-clause-lasting : goal.returns-in_err-request-clause-lasting
returns-in_err-request-clause-lasting g c = λ found told.
    let p = err_from_is_err_and c.from_residual.result c.from_residual.ensures.1 in
    rw (p.1, p.2) (last_of_memory _ _)

pub returns-in_err-request-clause-cost : goal.returns-in_err-request-clause-cost
returns-in_err-request-clause-cost g c = λ found told. record { reads = omega arith; written = omega arith }

-- ---- they are no request

pub returns-in_default-clause-crash : goal.returns-in_default-clause-crash
returns-in_default-clause-crash g c = λ found told.
    let H = g.H.Shelf in
    let shelf = c.args.shelf.now in
    untouched_leaves H.moment H.left_since shelf (H.may_leave shelf) (g.met.H.Shelf.only_now shelf) _

pub returns-in_default-clause-lasting : goal.returns-in_default-clause-lasting
returns-in_default-clause-lasting g c = λ found told. last_of_usage _ _

pub returns-in_default-clause-cost : goal.returns-in_default-clause-cost
returns-in_default-clause-cost g c = λ found told. record { reads = omega arith; written = omega arith }

-- ---- a question is asked

pub returns-in-Ask-clause-puts : goal.returns-in-Ask-clause-puts
returns-in-Ask-clause-puts g c = λ found told.
    let read : request c.args.words.now ≡ Some c.in-Some.request = sym c.in_ok-request.ensures.value ∙ c.in-Some.is in
    rw (read, c.in-Ask.is) (c.reply_to.ensures.puts found ((rw (read, c.in-Ask.is) at told) refl))

pub returns-in-Ask-clause-clock : goal.returns-in-Ask-clause-clock
returns-in-Ask-clause-clock g c =
    let read : request c.args.words.now ≡ Some c.in-Some.request = sym c.in_ok-request.ensures.value ∙ c.in-Some.is in
    rw (read, c.in-Ask.is) c.reply_to.ensures.clock

pub returns-in-Ask-clause-crash : goal.returns-in-Ask-clause-crash
returns-in-Ask-clause-crash g c = λ found told.
    let read : request c.args.words.now ≡ Some c.in-Some.request = sym c.in_ok-request.ensures.value ∙ c.in-Some.is in
    rw (read, c.in-Ask.is) (c.reply_to.ensures.crash found ((rw (read, c.in-Ask.is) at told) refl))

pub returns-in-Ask-clause-lasting : goal.returns-in-Ask-clause-lasting
returns-in-Ask-clause-lasting g c = λ found told.
    let read : request c.args.words.now ≡ Some c.in-Some.request = sym c.in_ok-request.ensures.value ∙ c.in-Some.is in
    rw (read, c.in-Ask.is) (c.reply_to.ensures.lasting found ((rw (read, c.in-Ask.is) at told) refl))

pub returns-in-Ask-clause-cost : goal.returns-in-Ask-clause-cost
returns-in-Ask-clause-cost g c = λ found told.
    let read : request c.args.words.now ≡ Some c.in-Some.request = sym c.in_ok-request.ensures.value ∙ c.in-Some.is in
    rw (read, c.in-Ask.is) (c.reply_to.ensures.cost found ((rw (read, c.in-Ask.is) at told) refl))

-- ---- a trial is made

pub returns-in_err-print_trial-in-Trial-clause-puts : goal.returns-in_err-print_trial-in-Trial-clause-puts
returns-in_err-print_trial-in-Trial-clause-puts g c = λ found told.
    let p = err_from_is_err_and c.from_residual-in_err-print_trial-in-Trial.result c.from_residual-in_err-print_trial-in-Trial.ensures.1 in
    let read : request c.args.words.now ≡ Some c.in-Some.request = sym c.in_ok-request.ensures.value ∙ c.in-Some.is in
    rw (p.1, p.2, read, c.in-Trial.is)
    (trial_refused (trial_text c.in-Some.request.me c.in-Trial.number) _ _ c.in_err-print_trial-in-Trial.field-0.0 c.in_err-print_trial-in-Trial.ensures.puts)

pub returns-in_ok-print_trial-in-Trial-clause-puts : goal.returns-in_ok-print_trial-in-Trial-clause-puts
returns-in_ok-print_trial-in-Trial-clause-puts g c = λ found told.
    let read : request c.args.words.now ≡ Some c.in-Some.request = sym c.in_ok-request.ensures.value ∙ c.in-Some.is in
    rw (read, c.in-Trial.is) (trial_whole (trial_text c.in-Some.request.me c.in-Trial.number) _ _ tt tt c.in_ok-print_trial-in-Trial.ensures.puts)

-- ---- causes

pub returns-in-Ask-clause-cause : goal.returns-in-Ask-clause-cause
returns-in-Ask-clause-cause g c =
    let read : request c.args.words.now ≡ Some c.in-Some.request = sym c.in_ok-request.ensures.value ∙ c.in-Some.is in
    rw (read, c.in-Ask.is) c.reply_to.ensures.cause

pub returns-in_err-print_trial-in-Trial-clause-cause : goal.returns-in_err-print_trial-in-Trial-clause-cause
returns-in_err-print_trial-in-Trial-clause-cause g c =
    let p = err_from_is_err_and c.from_residual-in_err-print_trial-in-Trial.result c.from_residual-in_err-print_trial-in-Trial.ensures.1 in
    let read : request c.args.words.now ≡ Some c.in-Some.request = sym c.in_ok-request.ensures.value ∙ c.in-Some.is in
    let H = g.H.Shelf in
    let shelf = c.args.shelf.now in
    let mails = g.M.Source.left c.args.mbox.now in
    let lines = g.S.Source.left c.args.steps_file.now in
    rw (p.1, p.2, read, c.in-Trial.is) (trial_cause _ _ (Rose (H.faults shelf) (H.faults shelf)) (Gave mails mails) (Gave lines lines)
    (KeptBy (command.Trial c.in-Trial.number) c.in-Some.request.me (H.seen shelf)) (λ X. tt) c.in_err-print_trial-in-Trial.field-0.0)
