use Rattle.std.proofs.Common.{sym, ap, ◌∙◌, ◌||◌}
use Rattle.card_type.specs.Keys.{key_eq}
use Rattle.chat_states.specs.States.{has_key}
use Rattle.chat_states.proofs.OneChat.{is_there, noted}
use Rattle.chat_states.proofs.key_set.KeySet.note.Goals as goal

pub returns-clause-ok : goal.returns-clause-ok
returns-clause-ok c other =
    sym (is_there c.insert.new.self.keys other) ∙ c.in_ok-insert.ensures.updates.0 other
    ∙ noted c.self.inside.keys.keys c.args.key other
    ∙ ap (λ keys. key_eq c.args.key other || has_key keys other) c.self.view_is
