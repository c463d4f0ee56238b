use Rattle.std.proofs.Common.{◌≡◌, ◌≤◌, ◌++◌, ap, arith, false, length, subst}
use Rattle.kit.specs.Chains.{Adds, Cut}
use Rattle.source_buffer.specs.Buffered.{Buffered, BufferTakes}
use Rattle.steps_file.specs.Reading.{Reading, buffered}
use Rattle.steps_file.proofs.Answered.{reading, skipped, stays_at}
use Rattle.steps_file.proofs.Tracing.{stays_traced}
use Rattle.steps_file.proofs.reader.StepsReader.skip.Goals as goal

pub returns-clause-moved : goal.returns-clause-moved
returns-clause-moved g c =
    let t = c.in_ok-dropped.ensures.took in
    skipped (g.S.Source.left c.args.source.now) (g.S.Source.left c.skip.new.source) c.args.self.now (reading c.skip.new.self c.position-self-inside.result false c.skip.new.trace) c.self.inside.buffer
    c.self.inside.trace c.skip.new.trace c.self.inside.place t.0 c.in_ok-dropped.dropped (ap buffered c.self.view_is) c.self.invariant t.1 t.2

pub returns-clause-position : goal.returns-clause-position
returns-clause-position g c =
    let t = c.in_ok-dropped.ensures.took in
    stays_at (g.S.Source.left c.args.source.now) (g.S.Source.left c.skip.new.source) c.args.self.now (reading c.skip.new.self c.position-self-inside.result false c.skip.new.trace) c.self.inside.buffer c.self.inside.place t.0
    t.2.0 (ap buffered c.self.view_is) c.self.invariant t.1 t.2.1

pub returns-clause-traced : goal.returns-clause-traced
returns-clause-traced g c =
    let t = c.in_ok-dropped.ensures.took in
    let is = c.self.view_is in
    let l = g.S.Source.left c.args.source.now in
    let m = g.S.Source.left c.skip.new.source in
    let new : Reading = reading c.skip.new.self c.position-self-inside.result false c.skip.new.trace in
    let takes = subst (λ (b : Buffered). BufferTakes l m b c.skip.new.self t.0) (ap buffered is) t.1 in
    let held = subst (λ (b : Buffered). b.held ++ t.0 ≡ t.2.0 ++ c.skip.new.self.held) (ap buffered is) t.2.1 in
    let adds = subst (λ (x : Cut). Adds x c.skip.new.trace t.2.0) (ap (λ (r : Reading). r.trace) is) t.2.3 in
    let fits : length c.self.inside.buffer.held ≤ c.self.inside.buffer.taken = omega (arith, c.self.invariant) in
    stays_traced l m c.args.self.now new t.0 (omega (arith, fits, ap (λ (r : Reading). length r.held) is, ap (λ (r : Reading). r.taken) is)) (c.in_ok-dropped.ensures.fewer fits) takes (t.2.0, held, adds)
    (λ e. c.position-self-inside.ensures)
