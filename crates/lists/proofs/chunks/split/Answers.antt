use Rattle.std.proofs.Common.{rules, ◌≡◌, refl, ap, ◌∙◌, ◌<◌, ◌+◌, ◌/◌, suc, length, vec_len, arith}
use Rattle.lists.specs.Chunks.{joined}
use Rattle.lists.proofs.Joined.{chunk_at, joined-split}
use Rattle.lists.proofs.chunks.split.Goals as goal

pub returns : goal.returns
returns g c =
    let reserved = c.reserve.new.self in
    let chunk = c.args.chunk in
    let half = c.len-half.result / 2 in
    let len : vec_len reserved ≡ length reserved.items = search rules in
    let there : chunk < length reserved.items = omega (arith, len, c.in-Some.ensures.variant.0 refl) in
    let here = chunk_at reserved.items chunk c.in-Some.values.now there c.in-Some.ensures.value in
    let inserted = rw c.unwrap.ensures at c.insert-inserted.ensures.items in
    let next : chunk + 1 ≡ suc chunk = omega arith in
    ap joined inserted
    ∙ rw (c.in_ok-later.ensures.left, c.in_ok-later.ensures.taken, here, next) (joined-split reserved.items chunk half there)
    ∙ ap joined c.reserve.ensures.items
