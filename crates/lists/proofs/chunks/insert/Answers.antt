use Rattle.std.proofs.Common.{ap, ◌∙◌, subst}
use Rattle.std.proofs.lemmas.Result.{on_ok_weaker}
use Rattle.lists.specs.Chunks.{IsPlace, joined}
use Rattle.lists.proofs.Joined.{insert_at}
use Rattle.lists.proofs.chunks.insert.Goals as goal

pub returns-in-Some-clause-ok : goal.returns-in-Some-clause-ok
returns-in-Some-clause-ok g c =
    let place = c.in-Some.place in
    let stands = subst (λ xss. IsPlace xss c.args.index place.chunk place.index) c.deref.ensures.value c.in-Some.ensures.some in
    on_ok_weaker c.insert_at.result (λ put. ap joined put ∙ insert_at c.args.chunks.now.items c.args.index place.chunk place.index c.args.value stands) c.insert_at.ensures.ok
