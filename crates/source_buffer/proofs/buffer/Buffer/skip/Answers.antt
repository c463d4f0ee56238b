use Rattle.std.proofs.Common.{rules, arith, ap, take, ◌∙◌}
use Rattle.std.proofs.lemmas.Result.{err_from_is_err_and}
use Rattle.kit.proofs.ChainLaws.{adds_as}
use Rattle.source_buffer.proofs.Dropped.{dropped_none, dropped_more, dropped_all, dropped_end}
use Rattle.source_buffer.proofs.buffer.Buffer.skip.Goals as goal
use Rattle.source_buffer.proofs.buffer.Buffer.skip.Goals.{then-count-dropped, else-count-dropped}

pub loop-dropped-init : goal.loop-dropped-init
loop-dropped-init g c = record { later = omega arith; within = omega arith; fewer = λ h. h; dropped = dropped_none _ c.args.self.now c.args.trace.now }

pub returns-in_err-has_more-clause-took : goal.returns-in_err-has_more-clause-took
returns-in_err-has_more-clause-took g c =
    let t = c.in_err-has_more.ensures.took in
    let none = c.in_err-has_more.ensures.err in
    let p = err_from_is_err_and c.from_residual.result c.from_residual.ensures.1 in
    let h = dropped_all _ _ _ c.args.self.now c.loop-dropped.self c.has_more.new.self c.args.trace.now c.loop-dropped.trace c.loop-dropped.dropped t.0 c.loop-dropped.invariant.dropped t.1 (t.2 ∙ none) in
    (h.0, h.1, rw p.1 (omega (arith, h.2, c.loop-dropped-test.true), none))

pub returns-then-not-branch-clause-took : goal.returns-then-not-branch-clause-took
returns-then-not-branch-clause-took g c =
    let t = c.in_ok-has_more.ensures.took in
    dropped_end _ _ _ c.args.self.now c.loop-dropped.self c.has_more.new.self c.args.trace.now c.loop-dropped.trace c.loop-dropped.dropped t.0 c.loop-dropped.invariant.dropped t.1 t.2

pub loop-dropped-preserved : goal.loop-dropped-preserved
loop-dropped-preserved g c =
    let t = c.in_ok-has_more.ensures.took in record {
      later = omega (arith, c.loop-dropped.invariant.later, c.in_ok-has_more.ensures.later);
      within = elim c.if-count-dropped.branch [
        | then-count-dropped w ↦ omega (arith, w.some-is, c.loop-dropped-test.true)
        | else-count-dropped w ↦ omega (arith, w.some-is, w.if-count-dropped.false)
      ];
      fewer = λ h. c.advance.ensures.fewer;
      dropped = dropped_more _ _ _ c.args.self.now c.loop-dropped.self c.has_more.new.self c.advance.new.self c.args.trace.now c.loop-dropped.trace c.add.new.self c.loop-dropped.dropped c.if-count-dropped.some t.0 c.loop-dropped.invariant.dropped t.1
          c.advance.ensures.taken c.advance.ensures.budget t.2 c.advance.ensures.held (search rules)
          (adds_as c.loop-dropped.trace c.add.new.self (take c.if-count-dropped.some c.held.result.now) (take c.if-count-dropped.some c.has_more.new.self.held) (ap (take c.if-count-dropped.some) c.held.ensures) c.add.ensures.stands);
    }

pub returns-clause-took : goal.returns-clause-took
returns-clause-took g c =
    let d = c.loop-dropped.invariant.dropped in
    (d.bytes, d.took, (d.dropped, d.held, omega (arith, d.many, c.loop-dropped-test.false, c.loop-dropped.invariant.within), d.adds))

pub returns-clause-fewer : goal.returns-clause-fewer
returns-clause-fewer g c = c.loop-dropped.invariant.fewer
