use Rattle.std.proofs.lemmas.Result.{err_from_is_err_and}
use Rattle.std.proofs.Common.{◌≡◌, ◌≤◌, ◌+◌, ℕ, List, Err, true, false, inl, inr, ap, subst, sym, ◌∙◌, arith}
use Rattle.keeper.specs.Keeping.{after_change, is_refused}
use Rattle.tail_journal.specs.Pending.{with_change}
use Rattle.mboxrd.specs.Reading as mbox_reading
use Rattle.follower.specs.Feed.{counted}
use Rattle.state_image.specs.declared.position.Position.{Position}
use Rattle.state_store.specs.States.{IsWithin}
use Rattle.follower.specs.Following.{Following, keep_fault}
use Rattle.touched_chats.specs.Costs.{change_cost}
use Rattle.follower.proofs.Going.{full_caused}
use Rattle.follower.proofs.Turning.{bare_no_end, keep_cause, keep_full, line_reads, line_stops, line_taken, line_turns, step_no_end, lines_known, made_reads, none_reads, tried_reads}
use Rattle.follower.proofs.follower.Follower.turn_line.Goals as goal

pub returns-in_err-change-clause-mbox_took : goal.returns-in_err-change-clause-mbox_took
returns-in_err-change-clause-mbox_took g c =
    subst (λ (f : Following). (bytes : List ℕ) × mbox_reading.Takes (g.M.Source.left c.args.mbox.now) (g.M.Source.left c.change_of.new.mbox) f.mbox c.change_of.new.self.mbox bytes)
    c.self.view_is c.in_err-change.ensures.took

pub returns-in_err-apply-clause-mbox_took : goal.returns-in_err-apply-clause-mbox_took
returns-in_err-apply-clause-mbox_took g c =
    subst (λ (f : Following). (bytes : List ℕ) × mbox_reading.Takes (g.M.Source.left c.args.mbox.now) (g.M.Source.left c.change_of.new.mbox) c.args.self.now.mbox f.mbox bytes) (sym c.self-2.view_is)
    (subst (λ (f : Following). (bytes : List ℕ) × mbox_reading.Takes (g.M.Source.left c.args.mbox.now) (g.M.Source.left c.change_of.new.mbox) f.mbox c.change_of.new.self.mbox bytes)
    c.self.view_is c.in_ok-change.ensures.took)

pub returns-clause-mbox_took : goal.returns-clause-mbox_took
returns-clause-mbox_took g c =
    subst (λ (f : Following). (bytes : List ℕ) × mbox_reading.Takes (g.M.Source.left c.args.mbox.now) (g.M.Source.left c.change_of.new.mbox) c.args.self.now.mbox f.mbox bytes) (sym c.self-2.view_is)
    (subst (λ (f : Following). (bytes : List ℕ) × mbox_reading.Takes (g.M.Source.left c.args.mbox.now) (g.M.Source.left c.change_of.new.mbox) f.mbox c.change_of.new.self.mbox bytes)
    c.self.view_is c.in_ok-change.ensures.took)

pub returns-in_err-apply-clause-goes : goal.returns-in_err-apply-clause-goes
returns-in_err-apply-clause-goes g c = λ files last.
    let p = err_from_is_err_and c.from_residual-in_err-apply.result c.from_residual-in_err-apply.ensures.1 in
    let old : Following = record c.args.self.now { failed = true } in
    let why = c.in_err-apply.field-0.0 in
    let passed : Following = record { keeper = c.self.inside.keeper; mbox = c.self.inside.mbox; lines = c.next.new.self; failed = true } in
    let next = lines_known (g.S.Source.left c.args.steps_file.now) (g.S.Source.left c.next.new.source) old passed c.self.inside.lines c.in_ok-step.field-0 c.in-Step.step
    (ap (λ (f : Following). f.lines) c.self.view_is) c.in-Step.is c.in_ok-step.ensures.answer c.in_ok-step.ensures.position c.in_ok-step.ensures.traced in
    let here = ap (λ (f : Following). record f { lines = c.next.new.self; failed = true }) c.self.view_is in
    let before = c.counted.ensures ∙ ap counted (c.position-position.ensures.value ∙ ap (λ (f : Following). f.keeper.state.position) c.self.view_is) in
    let place = c.at_line-position.ensures ∙ (λ i. record (before i) { steps = c.place-2.ensures i; lines = (before i).lines + 1; steps_trace = c.trace-2.ensures.value i }) in
    rw (p.1, p.2) (line_stops files _ _ _ _ old _ c.change_of.new.self _ c.in-Step.step c.at_line-position.result (c.in_ok-change.change, c.in_ok-change.position) here c.in_ok-change.ensures.rest
    (sym c.requires.place) c.in-Step.is next place (c.in_ok-change.ensures.makes files) last _ (keep_cause why c.in_err-apply.ensures.cause)
    (λ e. subst (λ (f : Following). is_refused f.keeper.state c.in_ok-change.change ≡ true) c.self-2.view_is (c.in_err-apply.ensures.full (ap Err (keep_full why e)))))

pub returns-clause-goes : goal.returns-clause-goes
returns-clause-goes g c = λ files last.
    let old : Following = record c.args.self.now { failed = true } in
    let change = c.in_ok-change.change in
    let position = c.in_ok-change.position in
    let passed : Following = record { keeper = c.self.inside.keeper; mbox = c.self.inside.mbox; lines = c.next.new.self; failed = true } in
    let next = lines_known (g.S.Source.left c.args.steps_file.now) (g.S.Source.left c.next.new.source) old passed c.self.inside.lines c.in_ok-step.field-0 c.in-Step.step
    (ap (λ (f : Following). f.lines) c.self.view_is) c.in-Step.is c.in_ok-step.ensures.answer c.in_ok-step.ensures.position c.in_ok-step.ensures.traced in
    let here = ap (λ (f : Following). record f { lines = c.next.new.self; failed = true }) c.self.view_is in
    let before = c.counted.ensures ∙ ap counted (c.position-position.ensures.value ∙ ap (λ (f : Following). f.keeper.state.position) c.self.view_is) in
    let place = c.at_line-position.ensures ∙ (λ i. record (before i) { steps = c.place-2.ensures i; lines = (before i).lines + 1; steps_trace = c.trace-2.ensures.value i }) in
    let new : Following = record { keeper = c.apply.new.self; mbox = c.self-2.inside.mbox; lines = c.self-2.inside.lines; failed = false } in
    let room = subst (λ (f : Following). is_refused f.keeper.state change ≡ false) c.self-2.view_is c.in_ok-apply.ensures.room in
    let state = c.in_ok-apply.ensures.state ∙ ap (λ (f : Following). after_change f.keeper.state change position) c.self-2.view_is in
    let pending = c.in_ok-apply.ensures.pending ∙ ap (λ (f : Following). with_change f.keeper.pending change) c.self-2.view_is in
    let same = ap (λ (f : Following). f.lines) c.self-2.view_is ∙ ap (λ (f : Following). f.lines) c.in_ok-change.ensures.rest in
    line_turns files _ _ _ _ old _ c.change_of.new.self _ c.in-Step.step c.at_line-position.result (change, position) here c.in_ok-change.ensures.rest
    (sym c.requires.place) c.in-Step.is next place (c.in_ok-change.ensures.makes files) new last room (state, pending) (ap (λ (f : Following). f.mbox) c.self-2.view_is) same

pub returns-in_err-apply-clause-cost : goal.returns-in_err-apply-clause-cost
returns-in_err-apply-clause-cost g c = λ files last.
    let p = err_from_is_err_and c.from_residual-in_err-apply.result c.from_residual-in_err-apply.ensures.1 in
    let old : Following = record c.args.self.now { failed = true } in
    let passed : Following = record { keeper = c.self.inside.keeper; mbox = c.self.inside.mbox; lines = c.next.new.self; failed = true } in
    let next = lines_known (g.S.Source.left c.args.steps_file.now) (g.S.Source.left c.next.new.source) old passed c.self.inside.lines c.in_ok-step.field-0 c.in-Step.step
    (ap (λ (f : Following). f.lines) c.self.view_is) c.in-Step.is c.in_ok-step.ensures.answer c.in_ok-step.ensures.position c.in_ok-step.ensures.traced in
    let here = ap (λ (f : Following). record f { lines = c.next.new.self; failed = true }) c.self.view_is in
    let before = c.counted.ensures ∙ ap counted (c.position-position.ensures.value ∙ ap (λ (f : Following). f.keeper.state.position) c.self.view_is) in
    let place = c.at_line-position.ensures ∙ (λ i. record (before i) { steps = c.place-2.ensures i; lines = (before i).lines + 1; steps_trace = c.trace-2.ensures.value i }) in
    let cost = subst (λ (f : Following). c.apply.new.steps ≤ c.args.steps.now + change_cost f.keeper.state.mailbox c.in_ok-change.change) c.self-2.view_is c.in_err-apply.ensures.cost in
    rw p.1 (line_reads files _ _ _ _ old _ c.change_of.new.self _ c.in-Step.step c.at_line-position.result (c.in_ok-change.change, c.in_ok-change.position) here c.in_ok-change.ensures.rest
    (sym c.requires.place) c.in-Step.is next place (c.in_ok-change.ensures.makes files) last c.args.steps.now c.apply.new.steps cost)

pub returns-clause-cost : goal.returns-clause-cost
returns-clause-cost g c = λ files last.
    let old : Following = record c.args.self.now { failed = true } in
    let passed : Following = record { keeper = c.self.inside.keeper; mbox = c.self.inside.mbox; lines = c.next.new.self; failed = true } in
    let next = lines_known (g.S.Source.left c.args.steps_file.now) (g.S.Source.left c.next.new.source) old passed c.self.inside.lines c.in_ok-step.field-0 c.in-Step.step
    (ap (λ (f : Following). f.lines) c.self.view_is) c.in-Step.is c.in_ok-step.ensures.answer c.in_ok-step.ensures.position c.in_ok-step.ensures.traced in
    let here = ap (λ (f : Following). record f { lines = c.next.new.self; failed = true }) c.self.view_is in
    let before = c.counted.ensures ∙ ap counted (c.position-position.ensures.value ∙ ap (λ (f : Following). f.keeper.state.position) c.self.view_is) in
    let place = c.at_line-position.ensures ∙ (λ i. record (before i) { steps = c.place-2.ensures i; lines = (before i).lines + 1; steps_trace = c.trace-2.ensures.value i }) in
    let cost = subst (λ (f : Following). c.apply.new.steps ≤ c.args.steps.now + change_cost f.keeper.state.mailbox c.in_ok-change.change) c.self-2.view_is c.in_ok-apply.ensures.cost in
    line_reads files _ _ _ _ old _ c.change_of.new.self _ c.in-Step.step c.at_line-position.result (c.in_ok-change.change, c.in_ok-change.position) here c.in_ok-change.ensures.rest
    (sym c.requires.place) c.in-Step.is next place (c.in_ok-change.ensures.makes files) last c.args.steps.now c.apply.new.steps cost

pub returns-in_err-step-clause-reads : goal.returns-in_err-step-clause-reads
returns-in_err-step-clause-reads g c =
    let p = err_from_is_err_and c.from_residual.result c.from_residual.ensures.1 in
    rw p.1 (none_reads c.args.self.now.keeper.state.mailbox c.args.steps.now)

pub returns-in-NoStep-clause-reads : goal.returns-in-NoStep-clause-reads
returns-in-NoStep-clause-reads g c = none_reads c.args.self.now.keeper.state.mailbox c.args.steps.now

pub returns-in_err-change-clause-reads : goal.returns-in_err-change-clause-reads
returns-in_err-change-clause-reads g c =
    let p = err_from_is_err_and c.from_residual-in_err-change.result c.from_residual-in_err-change.ensures.1 in
    rw p.1 (none_reads c.args.self.now.keeper.state.mailbox c.args.steps.now)

pub returns-in_err-apply-clause-reads : goal.returns-in_err-apply-clause-reads
returns-in_err-apply-clause-reads g c =
    let p = err_from_is_err_and c.from_residual-in_err-apply.result c.from_residual-in_err-apply.ensures.1 in
    let keeper = λ (f : Following). f.keeper in
    let same = ap keeper c.self-2.view_is ∙ ap keeper c.in_ok-change.ensures.rest ∙ ap keeper c.self.view_is in
    rw p.1 (tried_reads c.args.self.now.keeper c.self-2.inside.keeper c.in_ok-change.change c.args.steps.now c.apply.new.steps same c.in_err-apply.ensures.cost)

pub returns-clause-reads : goal.returns-clause-reads
returns-clause-reads g c =
    let keeper = λ (f : Following). f.keeper in
    let same = ap keeper c.self-2.view_is ∙ ap keeper c.in_ok-change.ensures.rest ∙ ap keeper c.self.view_is in
    made_reads c.args.self.now.keeper c.self-2.inside.keeper c.apply.new.self c.in_ok-change.change c.in_ok-change.position c.args.steps.now c.apply.new.steps same c.in_ok-apply.ensures.state c.in_ok-apply.ensures.cost

-- ---- whatever the files tell

pub change_of-requires-clause-counted : goal.change_of-requires-clause-counted
change_of-requires-clause-counted g c =
    let old : Following = record { keeper = c.self.inside.keeper; mbox = c.self.inside.mbox; lines = c.self.inside.lines; failed = c.self.inside.failed } in
    let place = ap (λ (f : Following). f.lines.place) c.self.view_is ∙ c.requires.place ∙ sym (ap (λ (f : Following). f.keeper.state.position.steps) c.self.view_is) in
    let within = subst IsWithin c.position-position.ensures.value c.position-position.ensures.within in
    let taken = line_taken old c.next.new.self place (c.in_ok-step.ensures.passed (step_no_end c.in_ok-step.field-0 c.in-Step.step c.in-Step.is)) c.in_ok-step.ensures.within within in
    omega (
      arith,
      taken,
      ap (λ (p : Position). p.lines) c.at_line-position.ensures,
      ap (λ (p : Position). p.lines) c.counted.ensures,
      ap (λ (p : Position). p.lines) c.position-position.ensures.value,
    )

pub returns-in-NoStep-clause-cause : goal.returns-in-NoStep-clause-cause
returns-in-NoStep-clause-cause g c =
    let old : Following = record { keeper = c.self.inside.keeper; mbox = c.self.inside.mbox; lines = c.self.inside.lines; failed = c.self.inside.failed } in
    let place = ap (λ (f : Following). f.lines.place) c.self.view_is ∙ c.requires.place ∙ sym (ap (λ (f : Following). f.keeper.state.position.steps) c.self.view_is) in
    let within = subst IsWithin c.position-position.ensures.value c.position-position.ensures.within in
    let taken = line_taken old c.next.new.self place (c.in_ok-step.ensures.passed (bare_no_end c.in_ok-step.field-0 c.in-NoStep.is)) c.in_ok-step.ensures.within within in
    omega (
      arith,
      taken,
      ap (λ (p : Position). p.lines) c.at_line.ensures,
      ap (λ (p : Position). p.lines) c.position-position.ensures.value,
    )

pub returns-in_err-apply-clause-cause : goal.returns-in_err-apply-clause-cause
returns-in_err-apply-clause-cause g c =
    let p = err_from_is_err_and c.from_residual-in_err-apply.result c.from_residual-in_err-apply.ensures.1 in
    let why = c.in_err-apply.field-0.0 in
    let old : Following = record { keeper = c.self.inside.keeper; mbox = c.self.inside.mbox; lines = c.self.inside.lines; failed = c.self.inside.failed } in
    let place = ap (λ (f : Following). f.lines.place) c.self.view_is ∙ c.requires.place ∙ sym (ap (λ (f : Following). f.keeper.state.position.steps) c.self.view_is) in
    let within = subst IsWithin c.position-position.ensures.value c.position-position.ensures.within in
    let taken = line_taken old c.next.new.self place (c.in_ok-step.ensures.passed (step_no_end c.in_ok-step.field-0 c.in-Step.step c.in-Step.is)) c.in_ok-step.ensures.within within in
    let same = ap (λ (f : Following). f.lines.taken) c.self-2.view_is ∙ ap (λ (f : Following). f.lines.taken) c.in_ok-change.ensures.rest in
    let new : Following = record { keeper = c.apply.new.self; mbox = c.self-2.inside.mbox; lines = c.self-2.inside.lines; failed = true } in
    rw (p.1, p.2) (full_caused _ _ _ _ new (keep_fault why) (keep_cause why c.in_err-apply.ensures.cause) (λ _. inr (omega (arith, taken, same))))

pub returns-clause-fed : goal.returns-clause-fed
returns-clause-fed g c =
    let old : Following = record { keeper = c.self.inside.keeper; mbox = c.self.inside.mbox; lines = c.self.inside.lines; failed = c.self.inside.failed } in
    let place = ap (λ (f : Following). f.lines.place) c.self.view_is ∙ c.requires.place ∙ sym (ap (λ (f : Following). f.keeper.state.position.steps) c.self.view_is) in
    let within = subst IsWithin c.position-position.ensures.value c.position-position.ensures.within in
    let taken = line_taken old c.next.new.self place (c.in_ok-step.ensures.passed (step_no_end c.in_ok-step.field-0 c.in-Step.step c.in-Step.is)) c.in_ok-step.ensures.within within in
    let same = ap (λ (f : Following). f.lines.taken) c.self-2.view_is ∙ ap (λ (f : Following). f.lines.taken) c.in_ok-change.ensures.rest in
    inl (omega (arith, taken, same))

pub returns-in-End-clause-fed : goal.returns-in-End-clause-fed
returns-in-End-clause-fed g c = inr (ap (λ (f : Following). f.keeper.state) c.self.view_is)
