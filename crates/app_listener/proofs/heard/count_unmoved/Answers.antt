use Rattle.std.proofs.Common.{◌≡◌, ap, ◌∙◌, arith}
use Rattle.std.proofs.lemmas.Slice.Zip.{zip_end}
use Rattle.app_listener.specs.Hearing.{is_origin}
use Rattle.app_listener.proofs.Prefixes.{common-ended}
use Rattle.app_listener.proofs.heard.count_unmoved.Goals as goal

pub returns : goal.returns
returns c =
    let heard = c.args.heard.now in
    let rows = c.args.rows.now in
    let begun = c.into_iter-origin-iterator.ensures.into_iter_gives in
    let first : c.into_iter-origin-iterator.result.a.rest.now ≡ heard = ap (λ z. z.a.rest.now) begun ∙ ap (λ i. i.rest.now) c.zip-origin-items.ensures.first ∙ c.iter.ensures.rest in
    let second : c.into_iter-origin-iterator.result.b.rest.now ≡ rows = ap (λ z. z.b.rest.now) begun ∙ c.zip-origin-items.ensures.second.0 in
    let count = c.loop-origin.invariant.count
    ∙ zip_end heard rows c.loop-origin.yielded c.into_iter-origin-iterator.result c.loop-origin.origin-iterator c.next.new.self c.next.result first second c.loop-origin.yielded_by c.in-None.is c.next.ensures.steps in
    omega (arith, c.loop-origin.invariant.same, common-ended is_origin heard rows c.loop-origin.count count)
