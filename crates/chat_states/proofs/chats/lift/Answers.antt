use Rattle.chat_states.proofs.OneChat.{kept_other}
use Rattle.chat_states.proofs.chats.lift.Goals as goal

pub returns-clause-others : goal.returns-clause-others
returns-clause-others c =
    kept_other c.replace.result c.args.chats.now c.replace.new.self c.args.key.now c.empty.result c.replace.ensures.ok c.replace.ensures.err
