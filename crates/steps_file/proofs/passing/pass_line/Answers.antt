use Rattle.std.proofs.Common.{◌≡◌, ◌+◌, ◌++◌, ◌∙◌, length, take, ap, arith}
use Rattle.std.proofs.lemmas.List.{take_all}
use Rattle.kit.proofs.RawLines.{lf_found, lf_missing}
use Rattle.source_buffer.proofs.Taking.{BufferTakes_on, let_go}
use Rattle.steps_file.proofs.EndedLines.{lf_ends, lf_last, lf_nowhere}
use Rattle.steps_file.proofs.Passed.{passed_more, passed_end}
use Rattle.steps_file.proofs.passing.pass_line.Goals as goal

pub returns-in-Some-clause-took : goal.returns-in-Some-clause-took
returns-in-Some-clause-took g c =
    let t = c.in_ok-has_more.ensures.took in
    let before = c.loop-buffer.invariant.passed in
    let held = c.held-held.result.now in
    let end = c.in-Some.end in
    let one = lf_last held end (lf_found held end c.in-Some.ensures) c.in-Some.ensures.0.high in
    let p = passed_more _ _ _ c.args.buffer.now c.loop-buffer.buffer c.advance.new.self c.args.trace.now c.loop-buffer.trace c.add.new.self before.0 c.loop-buffer.line t.0 (take (end + 1) held) c.keep.new.self before.1
    (BufferTakes_on _ _ c.loop-buffer.buffer c.has_more.new.self c.advance.new.self t.0 t.1 c.advance.ensures.taken c.advance.ensures.budget)
    (let_go c.loop-buffer.buffer c.has_more.new.self c.advance.new.self t.0 held (end + 1) t.2 c.held-held.ensures c.advance.ensures.held) c.keep.ensures c.add.ensures.stands in
    (p.bytes, p.took, (before.0 ++ take (end + 1) held, p.held, p.kept, lf_ends before.0 (take (end + 1) held) before.2 one, p.adds))

pub loop-buffer-preserved : goal.loop-buffer-preserved
loop-buffer-preserved g c =
    let t = c.in_ok-has_more.ensures.took in
    let before = c.loop-buffer.invariant.passed in
    let held = c.held-held.result.now in
    let whole : take (length held) held ≡ held = take_all (length held) held (omega arith) in
    let p = passed_more _ _ _ c.args.buffer.now c.loop-buffer.buffer c.advance-in-None.new.self c.args.trace.now c.loop-buffer.trace c.add-in-None.new.self before.0 c.loop-buffer.line t.0 held c.keep-in-None.new.self before.1
    (BufferTakes_on _ _ c.loop-buffer.buffer c.has_more.new.self c.advance-in-None.new.self t.0 t.1 c.advance-in-None.ensures.taken c.advance-in-None.ensures.budget)
    (let_go c.loop-buffer.buffer c.has_more.new.self c.advance-in-None.new.self t.0 held (length held) t.2 c.held-held.ensures c.advance-in-None.ensures.held
    ∙ ap (λ z. z ++ c.advance-in-None.new.self.held) whole) c.keep-in-None.ensures c.add-in-None.ensures.stands in
    record {
      later = omega (arith, c.loop-buffer.invariant.later, c.in_ok-has_more.ensures.later);
      passed = (before.0 ++ held, p, lf_nowhere before.0 held before.2 (lf_missing held c.in-None.ensures));
    }

pub returns-clause-took : goal.returns-clause-took
returns-clause-took g c =
    let t = c.in_ok-has_more.ensures.took in
    let before = c.loop-buffer.invariant.passed in
    let p = passed_end _ _ _ c.args.buffer.now c.loop-buffer.buffer c.has_more.new.self c.args.trace.now c.loop-buffer.trace before.0 c.loop-buffer.line t.0 before.1 t.1 t.2 in
    (p.bytes, p.took, (before.0, p.held, p.kept, before.2, p.adds))
