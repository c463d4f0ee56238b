use Rattle.mailbox_model.specs.Printed.{reaction_line}
use Rattle.chat_print.proofs.Lines.{line_more}
use Rattle.chat_print.proofs.chat.push_reactions.Goals as goal

pub loop-reaction-preserved : goal.loop-reaction-preserved
loop-reaction-preserved c =
    line_more reaction_line c.args.reactions.now c.loop-reaction.reaction-index c.reaction-item.result _ _ _ c.loop-reaction-test.true c.reaction-item.is
    c.loop-reaction.invariant c.in_ok-push_reaction.ensures
