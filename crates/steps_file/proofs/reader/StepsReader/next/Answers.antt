use Rattle.std.proofs.Common.{◌≡◌, ◌++◌, ℕ, List, refl, ◌+◌, ◌-◌, true, false, length, ap, arith, ◌∙◌, sym, subst}
use Rattle.std.proofs.lemmas.Result.{err_from_is_err_and}
use Rattle.kit.specs.Lines.{content}
use Rattle.steps_file.specs.declared.taken.Taken.TheVariants as taken
use Rattle.steps_file.specs.Steps.{step_of}
use Rattle.steps_file.specs.Answers.{answer_of}
use Rattle.steps_file.specs.Passing.{IsLineAt}
use Rattle.steps_file.specs.Reading.{Reading, buffered, position}
use Rattle.steps_file.proofs.Answered.{reading, passes, line_answer, end_answer, no_answer, answer_known, no_end, stays_at}
use Rattle.steps_file.proofs.MomentBounds.{moment_bound}
use Rattle.kit.specs.Chains.{Adds, Cut}
use Rattle.source_buffer.specs.Buffered.{Buffered, BufferTakes}
use Rattle.steps_file.proofs.Tracing.{goes_by, stays_traced, traced_both, traced_stays}
use Rattle.steps_file.proofs.reader.StepsReader.next.Goals as goal

pub returns-in_err-ended-clause-took : goal.returns-in_err-ended-clause-took
returns-in_err-ended-clause-took g c =
    let t = c.in_err-ended.ensures.took in
    let p = err_from_is_err_and c.from_residual.result c.from_residual.ensures.1 in
    let h = no_answer _ _ c.args.self.now (reading c.pass_line.new.buffer c.self.inside.place true c.self.inside.trace) c.self.inside.buffer t.0 (ap buffered c.self.view_is) t.1 t.2.0 in
    (t.0, h.0, rw p.1 h.1)

pub returns-then-not-ended-clause-took : goal.returns-then-not-ended-clause-took
returns-then-not-ended-clause-took g c =
    let t = c.in_ok-ended.ensures.took in
    let none = subst (λ b. IsLineAt b t.2.0) c.if-not-ended.true t.2.3 in
    let h = end_answer _ _ c.args.self.now (reading c.pass_line.new.buffer c.self.inside.place false c.self.inside.trace) c.self.inside.buffer t.0 t.2.0 (ap buffered c.self.view_is) t.1 t.2.1 none
    (c.in_ok-ended.ensures.end c.if-not-ended.true).1 (ap (λ (r : Reading). r.place) c.self.view_is) in
    (t.0, h.0, (h.1.0, h.1.1, ap (λ (r : Reading). r.trace) c.self.view_is))

pub returns-then-not-ended-clause-answer : goal.returns-then-not-ended-clause-answer
returns-then-not-ended-clause-answer g c =
    let w = returns-then-not-ended-clause-took g c in
    answer_known (g.S.Source.left c.args.source.now) (g.S.Source.left c.pass_line.new.source) c.args.self.now (reading c.pass_line.new.buffer c.self.inside.place false c.self.inside.trace) w.0 taken.End w.1
    (λ e. c.in_ok-ended.ensures.end c.if-not-ended.true) w.2.0

pub overflow_sub-self : goal.overflow_sub-self
overflow_sub-self g c =
    let t = c.in_ok-ended.ensures.took in
    let h = passes _ _ c.self.inside.buffer c.pass_line.new.buffer c.self.inside.place t.0 t.2.0 c.self.invariant t.1 t.2.1 in
    omega (arith, h.0, c.position-start.ensures, c.position.ensures)

pub invariant_of-self-2 : goal.invariant_of-self-2
invariant_of-self-2 g c =
    let t = c.in_ok-ended.ensures.took in
    let h = passes _ _ c.self.inside.buffer c.pass_line.new.buffer c.self.inside.place t.0 t.2.0 c.self.invariant t.1 t.2.1 in
    omega (arith, h.0, h.1, c.position-start.ensures, c.position.ensures)

pub returns-clause-took : goal.returns-clause-took
returns-clause-took g c =
    let t = c.in_ok-ended.ensures.took in
    let h = passes _ _ c.self.inside.buffer c.pass_line.new.buffer c.self.inside.place t.0 t.2.0 c.self.invariant t.1 t.2.1 in
    let is = c.self.view_is in
    let place = c.self.inside.place + (c.position.result - c.position-start.result) in
    let moved : place ≡ c.args.self.now.place + length t.2.0 = omega (arith, h.0, c.position-start.ensures, c.position.ensures, ap (λ (r : Reading). r.place) is) in
    let one = subst (λ b. IsLineAt b t.2.0) c.if-not-ended.false t.2.3 in
    let new : Reading = reading c.pass_line.new.buffer place false c.pass_line.new.trace in
    let adds = subst (λ (x : Cut). Adds x c.pass_line.new.trace t.2.0) (c.copy-trace.ensures ∙ ap (λ (r : Reading). r.trace) is) t.2.4 in
    let w = line_answer _ _ c.args.self.now (reading c.pass_line.new.buffer place false c.pass_line.new.trace) c.self.inside.buffer t.0 t.2.0 c.pass_line.new.line c.answer_of.result (ap buffered is) t.1 t.2.1 t.2.2 one moved
    (c.answer_of.ensures ∙ ap (λ (l : List ℕ). answer_of (step_of (content l))) c.bytes.ensures) in
    let held = subst (λ (b : Buffered). b.held ++ t.0 ≡ t.2.0 ++ new.held) (ap buffered is) t.2.1 in
    (t.0, w.0, (w.1.0, w.1.1, goes_by (step_of (content c.bytes.result.now)) c.answer_of.result c.args.self.now t.0 new c.answer_of.ensures (t.2.0, held, adds)))

pub returns-clause-passed : goal.returns-clause-passed
returns-clause-passed g c = λ line.
    let t = c.in_ok-ended.ensures.took in
    let h = passes _ _ c.self.inside.buffer c.pass_line.new.buffer c.self.inside.place t.0 t.2.0 c.self.invariant t.1 t.2.1 in
    let one = subst (λ b. IsLineAt b t.2.0) c.if-not-ended.false t.2.3 in
    omega (arith, h.0, c.position-start.ensures, c.position.ensures, ap (λ (r : Reading). r.place) c.self.view_is, one)

pub returns-clause-within : goal.returns-clause-within
returns-clause-within g c = omega (arith, invariant_of-self-2 g c)

pub returns-then-not-ended-clause-within : goal.returns-then-not-ended-clause-within
returns-then-not-ended-clause-within g c =
    let t = c.in_ok-ended.ensures.took in
    let taken = t.1.taken in
    omega (arith, c.self.invariant, taken)

pub returns-clause-end : goal.returns-clause-end
returns-clause-end g c = λ e. absurd (no_end (step_of (content c.bytes.result.now)) (sym c.answer_of.ensures ∙ e))

pub returns-clause-moment : goal.returns-clause-moment
returns-clause-moment g c = λ n e. moment_bound (content c.bytes.result.now) n (sym c.answer_of.ensures ∙ e)

pub returns-clause-answer : goal.returns-clause-answer
returns-clause-answer g c =
    let w = returns-clause-took g c in
    answer_known (g.S.Source.left c.args.source.now) (g.S.Source.left c.pass_line.new.source) c.args.self.now
    (reading c.pass_line.new.buffer (c.self.inside.place + (c.position.result - c.position-start.result)) false c.pass_line.new.trace) w.0 c.answer_of.result w.1 (returns-clause-end g c) w.2.0

pub returns-clause-position : goal.returns-clause-position
returns-clause-position g c =
    let t = c.in_ok-ended.ensures.took in
    stays_at (g.S.Source.left c.args.source.now) (g.S.Source.left c.pass_line.new.source) c.args.self.now
    (reading c.pass_line.new.buffer (c.self.inside.place + (c.position.result - c.position-start.result)) false c.pass_line.new.trace) c.self.inside.buffer c.self.inside.place t.0 t.2.0 (ap buffered c.self.view_is) c.self.invariant t.1 t.2.1

pub returns-then-not-ended-clause-traced : goal.returns-then-not-ended-clause-traced
returns-then-not-ended-clause-traced g c =
    let w = returns-then-not-ended-clause-took g c in
    traced_stays _ (g.S.Source.left c.args.source.now) (g.S.Source.left c.pass_line.new.source) c.args.self.now (reading c.pass_line.new.buffer c.self.inside.place false c.self.inside.trace) w.0 w.1
    (ap (λ (r : Reading). r.trace) c.self.view_is) (ap (λ (r : Reading). r.place) c.self.view_is) (λ e. e refl)

pub returns-clause-traced : goal.returns-clause-traced
returns-clause-traced g c =
    let t = c.in_ok-ended.ensures.took in
    let h = passes _ _ c.self.inside.buffer c.pass_line.new.buffer c.self.inside.place t.0 t.2.0 c.self.invariant t.1 t.2.1 in
    let is = c.self.view_is in
    let l = g.S.Source.left c.args.source.now in
    let m = g.S.Source.left c.pass_line.new.source in
    let place = c.self.inside.place + (c.position.result - c.position-start.result) in
    let moved : place ≡ c.args.self.now.place + length t.2.0 = omega (arith, h.0, c.position-start.ensures, c.position.ensures, ap (λ (r : Reading). r.place) is) in
    let new : Reading = reading c.pass_line.new.buffer place false c.pass_line.new.trace in
    let takes = subst (λ (b : Buffered). BufferTakes l m b c.pass_line.new.buffer t.0) (ap buffered is) t.1 in
    let held = subst (λ (b : Buffered). b.held ++ t.0 ≡ t.2.0 ++ c.pass_line.new.buffer.held) (ap buffered is) t.2.1 in
    let adds = subst (λ (x : Cut). Adds x c.pass_line.new.trace t.2.0) (c.copy-trace.ensures ∙ ap (λ (r : Reading). r.trace) is) t.2.4 in
    traced_both _ l m c.args.self.now new
    (stays_traced l m c.args.self.now new t.0 (omega (arith, c.self.invariant, ap (λ (r : Reading). length r.held) is, ap (λ (r : Reading). r.taken) is)) (omega (arith, h.1)) takes (t.2.0, held, adds)
    (λ e. omega (arith, e, moved, h.0, ap position is)))
