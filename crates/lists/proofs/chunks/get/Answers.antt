use Rattle.std.proofs.Common.{◌<◌, Some, sym, ap, ◌∙◌, length, subst}
use Rattle.std.specs.List.{slice_get}
use Rattle.std.proofs.lemmas.Option.{slice_get-get_or}
use Rattle.lists.proofs.Joined.{chunk_at, get_at}
use Rattle.lists.proofs.chunks.get.Goals as goal

pub returns : goal.returns
returns g c =
    let chunks = c.args.chunks.now in
    let place = c.in_ok-place.place in
    let stands = c.in_ok-place.ensures.some in
    let here = c.as_slice-values.ensures ∙ chunk_at chunks place.chunk c.index-chunks-place.result stands.there c.index-chunks-place.is in
    let within = subst (λ xs. place.index < length xs) (sym here) stands.within in
    ap Some c.index-values-place.is
    ∙ sym (slice_get-get_or c.as_slice-values.result.now place.index c.index-values-place.result within)
    ∙ ap (λ xs. slice_get xs place.index) here
    ∙ sym (get_at chunks c.args.index place.chunk place.index stands)
