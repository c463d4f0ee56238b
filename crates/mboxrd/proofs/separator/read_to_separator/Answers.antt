use Rattle.std.proofs.Common.{◌++◌, ◌∙◌, sym, take, subst, arith, Some, None}
use Rattle.std.proofs.lemmas.Result.{err_from_is_err_and}
use Rattle.kit.proofs.ChainLaws.{adds_as}
use Rattle.mboxrd.specs.LineStates.{StepsTo}
use Rattle.mboxrd.specs.Traced.{held_back}
use Rattle.mboxrd.proofs.Tracing.{traced_as}
use Rattle.source_buffer.proofs.Taking.{BufferTakes_more, BufferTakes_on, let_go}
use Rattle.mboxrd.proofs.Progress.{progress_none, progress_more, progress_all, arrives_cut, arrives_end, clash}
use Rattle.mboxrd.proofs.separator.read_to_separator.Goals as goal

pub loop-buffer-init : goal.loop-buffer-init
loop-buffer-init g c = record { later = omega arith; state = c.requires; progress = progress_none _ c.args.buffer.now c.args.mail.now c.args.trace.now c.args.start }

pub returns-in_err-has_more-clause-took : goal.returns-in_err-has_more-clause-took
returns-in_err-has_more-clause-took g c =
    let t = c.in_err-has_more.ensures.took in
    let p = err_from_is_err_and c.from_residual.result c.from_residual.ensures.1 in
    let h = progress_all _ _ _ c.args.buffer.now c.loop-buffer.buffer c.has_more.new.self c.args.mail.now c.loop-buffer.mail c.args.trace.now c.loop-buffer.trace c.args.start c.loop-buffer.state t.0
    c.loop-buffer.invariant.progress c.loop-buffer.invariant.state t.1 (t.2 ∙ c.in_err-has_more.ensures.err) in
    (h.0, h.1, rw p.1 (λ e. h.2))

pub returns-in_err-step-clause-took : goal.returns-in_err-step-clause-took
returns-in_err-step-clause-took g c =
    let t = c.in_ok-has_more.ensures.took in
    let r = c.loop-buffer.invariant.progress in
    let p = err_from_is_err_and c.from_residual-in_err-step.result c.from_residual-in_err-step.ensures.1 in
    (r.bytes ++ t.0, BufferTakes_more _ _ _ c.args.buffer.now c.loop-buffer.buffer c.has_more.new.self r.bytes t.0 r.took t.1, rw p.1 (λ e. absurd (clash p.0 p.2 e)))

pub loop-buffer-preserved : goal.loop-buffer-preserved
loop-buffer-preserved g c =
    let t = c.in_ok-has_more.ensures.took in
    let k = c.in_ok-step.ensures.steps in
    let read = take c.in_ok-step.step.read c.held.result.now in
    let s = subst (StepsTo c.loop-buffer.state read k.0) c.in-Some.is k.2 in record {
      later = omega (arith, c.loop-buffer.invariant.later, c.in_ok-has_more.ensures.later);
      state = s.0;
      progress = progress_more _ _ _ c.args.buffer.now c.loop-buffer.buffer c.advance.new.self c.args.mail.now c.loop-buffer.mail c.read_on.new.mail c.args.trace.now c.loop-buffer.trace c.trace_step.new.trace c.args.start c.loop-buffer.state c.in-Some.next read t.0 k.0
          c.loop-buffer.invariant.progress (BufferTakes_on _ _ c.loop-buffer.buffer c.has_more.new.self c.advance.new.self t.0 t.1 c.advance.ensures.taken c.advance.ensures.budget)
          (let_go c.loop-buffer.buffer c.has_more.new.self c.advance.new.self t.0 c.held.result.now c.in_ok-step.step.read t.2 c.held.ensures c.advance.ensures.held) k.1 s
          (traced_as (held_back c.loop-buffer.state) c.held-in-loop-buffer.result.now c.held.result.now c.in_ok-step.step.read c.in_ok-step.step.next (Some c.in-Some.next) c.loop-buffer.trace c.trace_step.new.trace
          (c.held-in-loop-buffer.ensures ∙ sym c.held.ensures) c.in-Some.is c.trace_step.ensures);
    }

pub returns-in-None-clause-took : goal.returns-in-None-clause-took
returns-in-None-clause-took g c =
    let t = c.in_ok-has_more.ensures.took in
    let k = c.in_ok-step.ensures.steps in
    let read = take c.in_ok-step.step.read c.held.result.now in
    arrives_cut _ _ _ c.args.buffer.now c.loop-buffer.buffer c.advance.new.self c.args.mail.now c.loop-buffer.mail c.read_on.new.mail c.args.trace.now c.loop-buffer.trace c.trace_step.new.trace c.args.start c.loop-buffer.state read t.0 k.0
    c.loop-buffer.invariant.progress (BufferTakes_on _ _ c.loop-buffer.buffer c.has_more.new.self c.advance.new.self t.0 t.1 c.advance.ensures.taken c.advance.ensures.budget)
    (let_go c.loop-buffer.buffer c.has_more.new.self c.advance.new.self t.0 c.held.result.now c.in_ok-step.step.read t.2 c.held.ensures c.advance.ensures.held) k.1
    (subst (StepsTo c.loop-buffer.state read k.0) c.in-None.is k.2)
    (traced_as (held_back c.loop-buffer.state) c.held-in-loop-buffer.result.now c.held.result.now c.in_ok-step.step.read c.in_ok-step.step.next None c.loop-buffer.trace c.trace_step.new.trace
    (c.held-in-loop-buffer.ensures ∙ sym c.held.ensures) c.in-None.is c.trace_step.ensures)

pub returns-in_err-finish-clause-took : goal.returns-in_err-finish-clause-took
returns-in_err-finish-clause-took g c =
    let t = c.in_ok-has_more.ensures.took in
    let r = c.loop-buffer.invariant.progress in
    let p = err_from_is_err_and c.from_residual-in_err-finish.result c.from_residual-in_err-finish.ensures.1 in
    (r.bytes ++ t.0, BufferTakes_more _ _ _ c.args.buffer.now c.loop-buffer.buffer c.has_more.new.self r.bytes t.0 r.took t.1, rw p.1 (λ e. absurd (clash p.0 p.2 e)))

pub returns-clause-took : goal.returns-clause-took
returns-clause-took g c =
    let t = c.in_ok-has_more.ensures.took in
    let k = c.in_ok-finish.ensures in
    arrives_end _ _ _ c.args.buffer.now c.loop-buffer.buffer c.has_more.new.self c.args.mail.now c.loop-buffer.mail c.finish.new.mail c.args.trace.now c.loop-buffer.trace c.add.new.self c.args.start c.loop-buffer.state t.0 k.0
    c.loop-buffer.invariant.progress t.1 t.2 k.1 k.2
    (adds_as c.loop-buffer.trace c.add.new.self c.held_back.result.now (held_back c.loop-buffer.state) c.held_back.ensures c.add.ensures.stands)
