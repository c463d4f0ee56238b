use Rattle.std.proofs.Common.{◌≡◌, ◌∙◌, ◌-◌, ap, take, arith}
use Rattle.chat_card.proofs.TextLemmas.{prefix-is}
use Rattle.chat_card.proofs.text.prefix.Goals as goal

pub returns-clause-value : goal.returns-clause-value
returns-clause-value c =
    let last = c.floor_char_boundary.ensures in
    let kept = c.floor_char_boundary.result in
    let whole : kept - 0 ≡ kept = omega arith in
    c.range.ensures.value ∙ ap (λ n. take n c.args.text.now) whole ∙ prefix-is c.args.limit c.args.text.now kept (last.bound, last.boundary, last.nearest)
