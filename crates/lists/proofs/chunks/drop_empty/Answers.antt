use Rattle.std.proofs.Common.{rules, ◌≡◌, ◌<◌, sym, ap, ◌∙◌, length, vec_len, arith}
use Rattle.std.proofs.lemmas.Bool.{eqb-true}
use Rattle.std.proofs.lemmas.List.{nil_from_length}
use Rattle.lists.specs.Chunks.{joined}
use Rattle.lists.proofs.Joined.{chunk_at, joined-without}
use Rattle.lists.proofs.chunks.drop_empty.Goals as goal

pub returns-then-is_empty : goal.returns-then-is_empty
returns-then-is_empty g c =
    let chunks = c.args.chunks.now.items in
    let len : vec_len c.args.chunks.now ≡ length chunks = search rules in
    let there : c.args.chunk < length chunks = omega (arith, len, c.len.ensures, c.if-chunk-len.true) in
    let here = chunk_at chunks c.args.chunk c.index.result.now there c.index.ensures in
    ap joined c.remove-empty.ensures.items
    ∙ joined-without chunks c.args.chunk there (sym here ∙ nil_from_length c.index.result.now (eqb-true (length c.index.result.now) 0 (sym c.if-is_empty.ensures)))
