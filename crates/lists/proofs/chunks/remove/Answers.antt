use Rattle.std.proofs.Common.{ap, ◌∙◌, subst}
use Rattle.lists.specs.Chunks.{IsPlace, joined}
use Rattle.lists.proofs.Joined.{remove_at}
use Rattle.lists.proofs.chunks.remove.Goals as goal

pub returns-in-Some : goal.returns-in-Some
returns-in-Some g c =
    let place = c.in-Some.place in
    let stands = subst (λ xss. IsPlace xss c.args.index place.chunk place.index) c.deref.ensures.value c.in-Some.ensures.some in
    c.drop_empty.ensures ∙ ap joined c.remove_at.ensures ∙ remove_at c.args.chunks.now.items c.args.index place.chunk place.index stands
