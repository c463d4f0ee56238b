use Rattle.std.proofs.Common.{[], Some, refl, arith}
use Rattle.outside.specs.Causes.{Rose}
use Rattle.follow.specs.Outcome.{CauseOf, Gave, GaveNone, KeptFor, follows, mbox_budget, outcome, steps_budget}
use Rattle.follow.specs.Words.{request}
use Rattle.follow.specs.declared.status.Refusal.{Refusal}
use Rattle.follow.proofs.Refused.{answered, line_on, not_all, not_all_steps, not_disk, not_endless, not_endless_at, not_read}
use Rattle.follow.proofs.Replied.{cause_on, none_gave}
use Rattle.follow.proofs.WordReadings.{comes_unwritten}
use Rattle.follow.proofs.top.run.Goals as goal

-- ---- with a steps file

pub returns-in-Some-clause-usage : goal.returns-in-Some-clause-usage
returns-in-Some-clause-usage g c = comes_unwritten _ _ _ c.run_given.ensures.usage

pub returns-in-Some-clause-status : goal.returns-in-Some-clause-status
returns-in-Some-clause-status g c = rw c.in-Some.is c.run_given.ensures.status

pub returns-in-Some-clause-line : goal.returns-in-Some-clause-line
returns-in-Some-clause-line g c = rw c.in-Some.is c.run_given.ensures.line

pub returns-in-Some-clause-complete : goal.returns-in-Some-clause-complete
returns-in-Some-clause-complete g c = rw c.in-Some.is (λ found text told is few few_steps no_mbox no_out no_shelf no_steps.
    let ran = c.run_given.ensures in
    let old = g.K.Sink.held c.args.out.now in
    let new = g.K.Sink.held c.run_given.new.out in
    let mbox_left = g.M.Source.left c.args.mbox.now in
    let mbox_after = g.M.Source.left c.run_given.new.mbox in
    let steps_left = g.S.Source.left c.in-Some.steps_file.now in
    let steps_after = g.S.Source.left c.run_given.new.steps_file in
    let rose = Rose (g.K.Sink.faults c.args.out.now) (g.K.Sink.faults c.run_given.new.out) in
    let cause : Refusal → Type 0 = CauseOf (Rose (g.M.Source.faults c.args.mbox.now) (g.M.Source.faults c.run_given.new.mbox)) (Rose (g.S.Source.faults c.in-Some.steps_file.now) (g.S.Source.faults c.run_given.new.steps_file))
    (Rose (g.H.Shelf.faults c.args.shelf.now) (g.H.Shelf.faults c.run_given.new.shelf)) (Gave mbox_left mbox_after) (Gave steps_left steps_after) (KeptFor (request c.args.words.now) (g.H.Shelf.seen c.args.shelf.now)) in
    answered old new rose (outcome c.args.words.now found) text c.run_given.result is (ran.status found told) (ran.answer found told)
    (not_read old new cause rose c.run_given.result ran.line no_mbox no_steps)
    (not_endless_at (follows (request c.args.words.now)) c.run_given.result (λ yes. not_endless old new cause rose c.run_given.result ran.line
    (not_all mbox_left mbox_after found.mbox mbox_budget (told yes).mbox_is few) (not_all_steps steps_left steps_after found.steps steps_budget (told yes).steps_is few_steps)) ran.bare)
    (not_disk old new cause rose c.run_given.result ran.line no_shelf)
    (λ written. no_out (ran.write written)))

pub returns-in-Some-clause-steps_untouched : goal.returns-in-Some-clause-steps_untouched
returns-in-Some-clause-steps_untouched g c = rw c.in-Some.is (λ bare. (c.run_given.ensures.untouched bare).1)

pub returns-in-Some-clause-steps_took : goal.returns-in-Some-clause-steps_took
returns-in-Some-clause-steps_took g c = rw c.in-Some.is c.run_given.ensures.steps_took

-- ---- without one

pub returns-in-None-clause-usage : goal.returns-in-None-clause-usage
returns-in-None-clause-usage g c = comes_unwritten _ _ _ c.run_given-in-None.ensures.usage

pub returns-in-None-clause-status : goal.returns-in-None-clause-status
returns-in-None-clause-status g c = rw c.in-None.is c.run_given-in-None.ensures.status

pub returns-in-None-clause-line : goal.returns-in-None-clause-line
returns-in-None-clause-line g c =
    let ran = c.run_given-in-None in
    let mbox = Rose (g.M.Source.faults c.args.mbox.now) (g.M.Source.faults ran.new.mbox) in
    let shelf = Rose (g.H.Shelf.faults c.args.shelf.now) (g.H.Shelf.faults ran.new.shelf) in
    let mails = Gave (g.M.Source.left c.args.mbox.now) (g.M.Source.left ran.new.mbox) in
    let lines = Gave (Some []) (Some []) in
    let kept = KeptFor (request c.args.words.now) (g.H.Shelf.seen c.args.shelf.now) in
    rw c.in-None.is (line_on (g.K.Sink.held c.args.out.now) (g.K.Sink.held ran.new.out)
    (CauseOf mbox (Rose 0 0) shelf mails lines kept) (CauseOf mbox ⊥ shelf mails GaveNone kept) (Rose (g.K.Sink.faults c.args.out.now) (g.K.Sink.faults ran.new.out))
    (cause_on mbox mbox (Rose 0 0) ⊥ shelf shelf mails mails lines GaveNone kept (λ rose. rose) (λ none. omega (arith, none)) (λ rose. rose) (λ X gave. gave) none_gave)
    ran.result ran.ensures.line)

pub returns-in-None-clause-complete : goal.returns-in-None-clause-complete
returns-in-None-clause-complete g c = rw c.in-None.is (λ found text told is few few_steps no_mbox no_out no_shelf no_steps.
    let ran = c.run_given-in-None.ensures in
    let old = g.K.Sink.held c.args.out.now in
    let new = g.K.Sink.held c.run_given-in-None.new.out in
    let mbox_left = g.M.Source.left c.args.mbox.now in
    let mbox_after = g.M.Source.left c.run_given-in-None.new.mbox in
    let rose = Rose (g.K.Sink.faults c.args.out.now) (g.K.Sink.faults c.run_given-in-None.new.out) in
    let cause : Refusal → Type 0 = CauseOf (Rose (g.M.Source.faults c.args.mbox.now) (g.M.Source.faults c.run_given-in-None.new.mbox)) (Rose 0 0)
    (Rose (g.H.Shelf.faults c.args.shelf.now) (g.H.Shelf.faults c.run_given-in-None.new.shelf)) (Gave mbox_left mbox_after) (Gave (Some []) (Some [])) (KeptFor (request c.args.words.now) (g.H.Shelf.seen c.args.shelf.now)) in
    answered old new rose (outcome c.args.words.now found) text c.run_given-in-None.result is (ran.status found told) (ran.answer found told)
    (not_read old new cause rose c.run_given-in-None.result ran.line no_mbox (λ none. absurd (omega (arith, none))))
    (not_endless_at (follows (request c.args.words.now)) c.run_given-in-None.result (λ yes. not_endless old new cause rose c.run_given-in-None.result ran.line
    (not_all mbox_left mbox_after found.mbox mbox_budget (told yes).mbox_is few) (not_all (Some []) (Some []) [] steps_budget refl (omega (arith)))) ran.bare)
    (not_disk old new cause rose c.run_given-in-None.result ran.line no_shelf)
    (λ written. no_out (ran.write written)))

-- ---- what is put

pub returns-in-Some-clause-answer : goal.returns-in-Some-clause-answer
returns-in-Some-clause-answer g c = rw c.in-Some.is c.run_given.ensures.answer

pub returns-in-None-clause-answer : goal.returns-in-None-clause-answer
returns-in-None-clause-answer g c = rw c.in-None.is c.run_given-in-None.ensures.answer

-- ---- what is kept

pub returns-in-Some-clause-lasting : goal.returns-in-Some-clause-lasting
returns-in-Some-clause-lasting g c = rw c.in-Some.is c.run_given.ensures.lasting

pub returns-in-None-clause-lasting : goal.returns-in-None-clause-lasting
returns-in-None-clause-lasting g c = rw c.in-None.is c.run_given-in-None.ensures.lasting

-- ---- what a crash may leave

pub returns-in-Some-clause-crash : goal.returns-in-Some-clause-crash
returns-in-Some-clause-crash g c = rw c.in-Some.is c.run_given.ensures.crash

pub returns-in-None-clause-crash : goal.returns-in-None-clause-crash
returns-in-None-clause-crash g c = rw c.in-None.is c.run_given-in-None.ensures.crash

-- ---- what is read and written

pub returns-in-Some-clause-cost : goal.returns-in-Some-clause-cost
returns-in-Some-clause-cost g c = rw c.in-Some.is c.run_given.ensures.cost

pub returns-in-None-clause-cost : goal.returns-in-None-clause-cost
returns-in-None-clause-cost g c = rw c.in-None.is c.run_given-in-None.ensures.cost
