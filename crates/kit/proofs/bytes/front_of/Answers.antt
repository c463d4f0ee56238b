use Rattle.std.proofs.Common.{◌≡◌, refl, sym, ap, ap₂, ◌∙◌, suc, ◌+◌, ◌*◌, arith}
use Rattle.kit.specs.Fronts.{front}
use Rattle.kit.proofs.FrontLaws.{more, fits}
use Rattle.kit.proofs.bytes.front_of.Goals as goal

pub loop-index-init : goal.loop-index-init
loop-index-init c = refl

pub overflow_mul-front : goal.overflow_mul-front
overflow_mul-front c =
    let so_far = c.loop-index.invariant in
    let fit = fits c.loop-index.index c.args.bytes.now (λ i. omega (arith, c.type_inv.bytes i)) c.loop-index-test.true in
    omega arith

pub overflow_add-front : goal.overflow_add-front
overflow_add-front c =
    let so_far = c.loop-index.invariant in
    let byte = c.from.ensures ∙ c.byte_at.ensures in
    let fit = fits c.loop-index.index c.args.bytes.now (λ i. omega (arith, c.type_inv.bytes i)) c.loop-index-test.true in
    omega arith

pub loop-index-preserved : goal.loop-index-preserved
loop-index-preserved c =
    let next : suc c.loop-index.index ≡ c.loop-index.index + 1 = omega arith in
    ap₂ (λ m b. m * 256 + b) c.loop-index.invariant (c.from.ensures ∙ c.byte_at.ensures)
    ∙ sym (more c.loop-index.index c.args.bytes.now) ∙ ap (λ n. front n c.args.bytes.now) next

pub returns : goal.returns
returns c =
    let all : c.loop-index.index ≡ 8 = omega arith in
    record { is = c.loop-index.invariant ∙ ap (λ n. front n c.args.bytes.now) all; fit = λ i. omega (arith, c.type_inv.bytes i) }
