use Rattle.std.proofs.lemmas.Result.{err_from_is_err_and}
use Rattle.std.proofs.Common.{◌≡◌, ◌≤◌, ◌+◌, None, Err, true, false, inl, ap, subst, sym, ◌∙◌, arith}
use Rattle.std.specs.Prelude.{⊤, is_some}
use Rattle.kit.specs.Chains.{value_of}
use Rattle.mboxrd.specs.Reading.{Reading}
use Rattle.keeper.specs.Keeping.{after_change, is_refused}
use Rattle.tail_journal.specs.Pending.{with_change}
use Rattle.follower.specs.Feed.{counted}
use Rattle.source_buffer.specs.Known.{IfKnown}
use Rattle.follower.specs.Following.{Following, StandsInMbox, keep_fault, to_come}
use Rattle.follower.specs.Going.{MakesFirst, StopsAt}
use Rattle.follower.specs.Spending.{next_cost}
use Rattle.touched_chats.specs.Costs.{change_cost}
use Rattle.follower.proofs.Going.{full_caused}
use Rattle.follower.proofs.Turning.{keep_cause, keep_full, made_reads, mail_reads, mail_stops, mail_turns, none_reads, tried_reads}
use Rattle.follower.proofs.follower.Follower.turn_mail.Goals as goal

pub returns-in_err-apply-clause-goes : goal.returns-in_err-apply-clause-goes
returns-in_err-apply-clause-goes g c = λ files.
    let p = err_from_is_err_and c.from_residual-in_err-apply.result c.from_residual-in_err-apply.ensures.1 in
    let old : Following = record { keeper = c.self.inside.keeper; mbox = c.self.inside.mbox; lines = c.self.inside.lines; failed = true } in
    let why = c.in_err-apply.field-0.0 in
    let stands = c.in_ok-change.ensures.stands (ap is_some c.in-Some.is) in
    let stops = mail_stops files _ _ old c.next_arrival.new.self _ c.in-Some.change c.in_ok-change.ensures.rest c.in-Some.is c.in_ok-change.ensures.next stands (keep_fault why) (keep_cause why c.in_err-apply.ensures.cause)
    (λ e. subst (λ (f : Following). is_refused f.keeper.state c.in-Some.change ≡ true) c.self-2.view_is (c.in_err-apply.ensures.full (ap Err (keep_full why e)))) in
    rw (p.1, p.2) (subst (λ (f : Following). IfKnown (g.M.Source.left c.args.mbox.now) (g.M.Source.left c.next_arrival.new.mbox) (λ before after.
    StandsInMbox files f before → StopsAt (keep_fault why) f.keeper.state (to_come files None f before None) × ⊤)) c.self.view_is stops)

pub returns-clause-goes : goal.returns-clause-goes
returns-clause-goes g c = λ files.
    let old : Following = record { keeper = c.self.inside.keeper; mbox = c.self.inside.mbox; lines = c.self.inside.lines; failed = true } in
    let mid = c.next_arrival.new.self in
    let change = c.in-Some.change in
    let q = c.at_mail-position.result in
    let rest = c.in_ok-change.ensures.rest in
    let stands = c.in_ok-change.ensures.stands (ap is_some c.in-Some.is) in
    let new : Following = record { keeper = c.apply.new.self; mbox = c.self-2.inside.mbox; lines = c.self-2.inside.lines; failed = false } in
    let room = subst (λ (f : Following). is_refused f.keeper.state change ≡ false) c.self-2.view_is c.in_ok-apply.ensures.room in
    let state = c.in_ok-apply.ensures.state ∙ ap (λ (f : Following). after_change f.keeper.state change q) c.self-2.view_is in
    let pending = c.in_ok-apply.ensures.pending ∙ ap (λ (f : Following). with_change f.keeper.pending change) c.self-2.view_is in
    let before = c.counted.ensures ∙ ap counted c.position-position.ensures.value ∙ sym (ap (λ (f : Following). counted f.keeper.state.position) rest) in
    let reader = ap (λ (f : Following). f.mbox) c.self-2.view_is in
    let place = c.place.ensures ∙ ap (λ (r : Reading). r.place) reader in
    let trace = c.trace.ensures.value ∙ ap (λ (r : Reading). value_of r.trace) reader in
    let placed = c.at_mail-position.ensures ∙ (λ i. record (before i) { mbox = place i; mbox_trace = trace i }) in
    let turns = mail_turns files _ _ old mid _ change rest c.in-Some.is c.in_ok-change.ensures.next stands new q room (state, pending) placed reader in
    subst (λ (f : Following). IfKnown (g.M.Source.left c.args.mbox.now) (g.M.Source.left c.next_arrival.new.mbox) (λ before after.
    StandsInMbox files f before → MakesFirst f.keeper (to_come files None f before None) new.keeper (to_come files None new after None) × StandsInMbox files new after)) c.self.view_is turns

pub returns-in_err-apply-clause-cost : goal.returns-in_err-apply-clause-cost
returns-in_err-apply-clause-cost g c = λ files.
    let p = err_from_is_err_and c.from_residual-in_err-apply.result c.from_residual-in_err-apply.ensures.1 in
    let old : Following = record { keeper = c.self.inside.keeper; mbox = c.self.inside.mbox; lines = c.self.inside.lines; failed = true } in
    let cost = subst (λ (f : Following). c.apply.new.steps ≤ c.args.steps.now + change_cost f.keeper.state.mailbox c.in-Some.change) c.self-2.view_is c.in_err-apply.ensures.cost in
    let stands = c.in_ok-change.ensures.stands (ap is_some c.in-Some.is) in
    let reads = mail_reads files _ _ old c.next_arrival.new.self _ c.in-Some.change c.in_ok-change.ensures.rest c.in-Some.is c.in_ok-change.ensures.next stands c.args.steps.now c.apply.new.steps cost in
    rw p.1 (subst (λ (f : Following). IfKnown (g.M.Source.left c.args.mbox.now) (g.M.Source.left c.next_arrival.new.mbox) (λ before _.
    StandsInMbox files f before → c.apply.new.steps ≤ c.args.steps.now + next_cost f.keeper.state (to_come files None f before None).changes)) c.self.view_is reads)

pub returns-clause-cost : goal.returns-clause-cost
returns-clause-cost g c = λ files.
    let old : Following = record { keeper = c.self.inside.keeper; mbox = c.self.inside.mbox; lines = c.self.inside.lines; failed = true } in
    let cost = subst (λ (f : Following). c.apply.new.steps ≤ c.args.steps.now + change_cost f.keeper.state.mailbox c.in-Some.change) c.self-2.view_is c.in_ok-apply.ensures.cost in
    let stands = c.in_ok-change.ensures.stands (ap is_some c.in-Some.is) in
    let reads = mail_reads files _ _ old c.next_arrival.new.self _ c.in-Some.change c.in_ok-change.ensures.rest c.in-Some.is c.in_ok-change.ensures.next stands c.args.steps.now c.apply.new.steps cost in
    subst (λ (f : Following). IfKnown (g.M.Source.left c.args.mbox.now) (g.M.Source.left c.next_arrival.new.mbox) (λ before _.
    StandsInMbox files f before → c.apply.new.steps ≤ c.args.steps.now + next_cost f.keeper.state (to_come files None f before None).changes)) c.self.view_is reads

pub returns-in_err-change-clause-reads : goal.returns-in_err-change-clause-reads
returns-in_err-change-clause-reads g c =
    let p = err_from_is_err_and c.from_residual.result c.from_residual.ensures.1 in
    rw p.1 (none_reads c.args.self.now.keeper.state.mailbox c.args.steps.now)

pub returns-in_err-apply-clause-reads : goal.returns-in_err-apply-clause-reads
returns-in_err-apply-clause-reads g c =
    let p = err_from_is_err_and c.from_residual-in_err-apply.result c.from_residual-in_err-apply.ensures.1 in
    let keeper = λ (f : Following). f.keeper in
    let same = ap keeper c.self-2.view_is ∙ ap keeper c.in_ok-change.ensures.rest ∙ ap keeper c.self.view_is in
    rw p.1 (tried_reads c.args.self.now.keeper c.self-2.inside.keeper c.in-Some.change c.args.steps.now c.apply.new.steps same c.in_err-apply.ensures.cost)

pub returns-clause-reads : goal.returns-clause-reads
returns-clause-reads g c =
    let keeper = λ (f : Following). f.keeper in
    let same = ap keeper c.self-2.view_is ∙ ap keeper c.in_ok-change.ensures.rest ∙ ap keeper c.self.view_is in
    made_reads c.args.self.now.keeper c.self-2.inside.keeper c.apply.new.self c.in-Some.change c.at_mail-position.result c.args.steps.now c.apply.new.steps same c.in_ok-apply.ensures.state c.in_ok-apply.ensures.cost

pub returns-in_err-apply-clause-cause : goal.returns-in_err-apply-clause-cause
returns-in_err-apply-clause-cause g c =
    let p = err_from_is_err_and c.from_residual-in_err-apply.result c.from_residual-in_err-apply.ensures.1 in
    let why = c.in_err-apply.field-0.0 in
    let given = c.in_ok-change.ensures.given (ap is_some c.in-Some.is) in
    let new : Following = record { keeper = c.apply.new.self; mbox = c.self-2.inside.mbox; lines = c.self-2.inside.lines; failed = true } in
    rw (p.1, p.2) (full_caused _ _ _ _ new (keep_fault why) (keep_cause why c.in_err-apply.ensures.cause)
    (λ _. inl (omega (arith, given, ap (λ (f : Following). f.mbox.taken) c.self-2.view_is))))
