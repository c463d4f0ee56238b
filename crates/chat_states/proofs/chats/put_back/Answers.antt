use Rattle.std.proofs.Common.{ap, ◌∙◌}
use Rattle.std.specs.FinMap as map_of
use Rattle.chat_states.proofs.chats.put_back.Goals as goal

pub returns : goal.returns
returns c = c.in_ok-_before.ensures.ok ∙ ap (λ k. map_of.insert c.args.chats.now k c.args.state) c.in_ok-copy.ensures
