use Rattle.std.proofs.Common.{ap, ◌∙◌, subst}
use Rattle.lists.specs.Chunks.{IsPlace, joined}
use Rattle.lists.proofs.Joined.{set_at}
use Rattle.lists.proofs.chunks.set.Goals as goal

pub returns-in-Some : goal.returns-in-Some
returns-in-Some g c =
    let place = c.in-Some.place in
    let stands = subst (λ xss. IsPlace xss c.args.index place.chunk place.index) c.deref.ensures.value c.in-Some.ensures.some in
    ap joined c.set_at.ensures ∙ set_at c.args.chunks.now.items c.args.index place.chunk place.index c.args.value stands
