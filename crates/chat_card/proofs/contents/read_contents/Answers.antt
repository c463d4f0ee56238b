use Rattle.std.proofs.Common.{◌≡◌, ap, subst, ◌∙◌}
use Rattle.std.specs.Prelude.{IfOk}
use Rattle.chat_card.specs.Receipts.{receipt_of}
use Rattle.chat_card.proofs.ContentsLemmas.{without-reaction}
use Rattle.chat_card.proofs.contents.read_contents.Goals as goal

pub returns-clause-value : goal.returns-clause-value
returns-clause-value c =
    let read = c.in_ok-reaction.ensures in
    let is = without-reaction c.args.is_reply c.args.edit.now _ _ _ _ _ c.in_ok-parts.ensures
    (c.in_ok-receipt.ensures ∙ ap receipt_of c.deref.ensures.value) read.reaction (c.deref-2.ensures.value ∙ read.parts) in
    subst (λ whole. IfOk c.contents_with.result (λ contents. contents ≡ whole)) is c.contents_with.ensures.value
