use Rattle.std.proofs.Common.{◌≡◌, ◌∷◌, ap, arith, length}
use Rattle.mime_fields.specs.Views.{params_in, under}
use Rattle.mime_fields.proofs.ValueLemmas.{at_most-params}
use Rattle.mime_fields.proofs.section.values_in.Goals as goal

pub overflow_add-count : goal.overflow_add-count
overflow_add-count c =
    let next : params_in c.loop-firsts.left.left ≡ under c.in-Some.name.now c.in-Some.value.now ∷ params_in c.in-Some.rest.left = rw c.in-Some.is at c.in_ok-name.ensures.params in
    omega (arith, ap length next, at_most-params c.args.body.now, c.loop-firsts.invariant.counted)
