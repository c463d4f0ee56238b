use Rattle.std.proofs.Common.{◌∙◌}
use Rattle.std.proofs.lemmas.Result.{on_ok_weaker}
use Rattle.chat_view.proofs.Counted.{marked}
use Rattle.chat_view.proofs.state.ChatState.set_mark.Goals as goal

pub returns-clause-marked : goal.returns-clause-marked
returns-clause-marked c =
    on_ok_weaker c.settle.result (λ told within short is. told ∙ marked c.args.self.now c.args.index is c.args.mark c.mark_at.result c.set.new.self c.fresh_with-self.result c.fresh_without.result within short c.mark_at.ensures c.set.ensures c.fresh_without.ensures c.fresh_with-self.ensures) c.settle.ensures.told
