use Rattle.std.proofs.Common.{◌-◌, arith, length, drop, length-take, length-drop}
use Rattle.std.proofs.lemmas.List.Elements.{All-same}
use Rattle.mime_parts.specs.Multiparts.{bytes_at, spans}
use Rattle.mime_parts.specs.Walks.{IsWithin}
use Rattle.mime_parts.proofs.CutLemmas.{spans-within}
use Rattle.mime_parts.proofs.tree.opened.Goals as goal

pub returns-clause-within : goal.returns-clause-within
returns-clause-within c =
    let body = c.args.body.now in
    let content = c.args.content in
    let bytes = bytes_at body content in
    All-same (IsWithin (length body)) c.in_ok-found.found.items (spans c.in-Some.boundary.now content.start bytes) c.in_ok-found.ensures
    (spans-within c.in-Some.boundary.now content.start bytes (length body)
    (omega (arith, length-take (content.end - content.start) (drop content.start body), length-drop content.start body, c.requires.inside)))
