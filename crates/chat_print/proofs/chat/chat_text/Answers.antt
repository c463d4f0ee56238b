use Rattle.std.proofs.Common.{ap, ◌∙◌, [], ◌++◌}
use Rattle.mailbox_model.specs.Printed.{chat_text, row_text}
use Rattle.std.specs.Prelude.{flat_map}
use Rattle.chat_print.proofs.Heads.{head_and_rows}
use Rattle.chat_print.proofs.chat.chat_text.Goals as goal

pub returns : goal.returns
returns c =
    let head = c.in_ok-push_head.ensures ∙ ap (λ old. old ++ chat_text (record c.args.page.now { rows = [] })) c.new-text.ensures.bytes in
    c.in_ok-push_rows.ensures
    ∙ (λ i. head i ++ flat_map row_text (c.as_slice.ensures i))
    ∙ head_and_rows c.args.page.now
