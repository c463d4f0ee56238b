use Rattle.std.proofs.Common.{◌∙◌, ap, sym, subst, length}
use Rattle.std.specs.Str.{IsCharBoundary}
use Rattle.chat_card.specs.Texts.{trimmed}
use Rattle.chat_card.proofs.TextLemmas.{trimmed-boundary}
use Rattle.chat_card.proofs.text.trimmed.Goals as goal

pub range-requires-clause-end_boundary : goal.range-requires-clause-end_boundary
range-requires-clause-end_boundary c =
    let text = c.args.text.now in
    subst (λ kept. IsCharBoundary text (length kept)) (sym (c.without_spaces.ensures ∙ ap trimmed c.as_bytes.ensures.value)) (trimmed-boundary text)
