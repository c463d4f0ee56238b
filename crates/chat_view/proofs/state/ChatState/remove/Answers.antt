use Rattle.std.proofs.Common.{◌∙◌}
use Rattle.std.proofs.lemmas.Result.{on_ok_weaker}
use Rattle.chat_view.proofs.Counted.{removed}
use Rattle.chat_view.proofs.state.ChatState.remove.Goals as goal

pub returns-clause-taken : goal.returns-clause-taken
returns-clause-taken c =
    on_ok_weaker c.settle.result (λ told is. told ∙ removed c.args.self.now c.args.index is c.mark_at.result c.remove.new.self c.remove-2.new.self c.fresh_without-self.result c.mark_at.ensures c.remove.ensures c.remove-2.ensures c.fresh_without-self.ensures) c.settle.ensures.told
