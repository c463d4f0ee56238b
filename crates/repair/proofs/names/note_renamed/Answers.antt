use Rattle.std.proofs.Common.{sym, ap, ◌∙◌, ◌||◌, ◌&&◌, is_some}
use Rattle.std.specs.FinMap as map_of
use Rattle.std.specs.List.{list_any}
use Rattle.std.proofs.lemmas.List.{take_all}
use Rattle.chat_states.specs.States.{has_key}
use Rattle.repair.specs.Named.{has_other_name}
use Rattle.repair.proofs.Renaming.{renamed_is}
use Rattle.repair.proofs.names.note_renamed.Goals as goal

pub returns : goal.returns
returns c m n turn before cards were are turned named key =
    c.loop-one.invariant key
    ∙ ap (λ b. has_key c.args.keys.now key || (b && is_some (map_of.get c.args.chats.now key)))
    (ap (list_any (has_other_name c.args.contacts.now key)) (take_all c.loop-one.one-index c.args.named.now c.loop-one-test.false)
    ∙ sym (renamed_is m n turn before c.args.contacts.now cards c.args.named.now were are turned named key))
