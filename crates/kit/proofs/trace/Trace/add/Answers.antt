use Rattle.std.proofs.Common.{◌≡◌, ◌+◌, ◌-◌, ◌++◌, length, arith, sym, ap, ◌∙◌}
use Rattle.std.proofs.lemmas.List.{take-append-drop}
use Rattle.kit.specs.Chains.{cut_on}
use Rattle.kit.proofs.ChainLaws.{closed_on, kept, stands_as}
use Rattle.kit.proofs.trace.Trace.add.Goals as goal

pub loop-left-preserved : goal.loop-left-preserved
loop-left-preserved c =
    let whole : c.loop-left.left.now ≡ c.split_at.result.0.now ++ c.split_at.result.1.now =
    rw (c.split_at.ensures.front, c.split_at.ensures.back) (sym (take-append-drop c.room-in-loop-left.result c.loop-left.left.now)) in
    closed_on c.loop-left.self c.close.new.self c.loop-left.left.now c.split_at.result.0.now c.split_at.result.1.now whole
    (omega (arith, c.split_at.ensures.front_len, c.room-in-loop-left.ensures.room, c.room-in-loop-left.ensures.some)) c.close.ensures
    ∙ c.loop-left.invariant

pub returns-clause-value : goal.returns-clause-value
returns-clause-value c =
    c.keep.ensures ∙ sym (kept c.loop-left.self c.loop-left.left.now (omega (arith, c.room.ensures.room, c.loop-left-test.false))) ∙ c.loop-left.invariant

pub returns-clause-stands : goal.returns-clause-stands
returns-clause-stands c = λ before stands. stands_as c.args.self.now c.keep.new.self before c.args.bytes.now (returns-clause-value c) stands
