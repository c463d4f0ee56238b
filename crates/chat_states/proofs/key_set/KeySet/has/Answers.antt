use Rattle.std.proofs.Common.{ap, ◌∙◌}
use Rattle.chat_states.specs.States.{has_key}
use Rattle.chat_states.proofs.OneChat.{is_there}
use Rattle.chat_states.proofs.key_set.KeySet.has.Goals as goal

pub returns : goal.returns
returns c =
    let key = c.args.key.now in
    c.contains.ensures ∙ is_there c.self.inside.keys.keys key ∙ ap (λ keys. has_key keys key) c.self.view_is
