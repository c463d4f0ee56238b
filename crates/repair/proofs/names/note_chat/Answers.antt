use Rattle.std.proofs.Common.{◌≡◌, sym, ap, ◌∙◌, true, ◌||◌, ◌&&◌, is_some}
use Rattle.std.specs.FinMap as map_of
use Rattle.std.proofs.Math.Bool.{and-true, or_comm}
use Rattle.std.proofs.lemmas.Result.{on_ok_weaker}
use Rattle.card_type.specs.Keys.{key_eq}
use Rattle.mailbox_model.proofs.ListLaws.{key_turn}
use Rattle.chat_states.specs.States.{has_key}
use Rattle.repair.proofs.Sets.{still_some}
use Rattle.repair.proofs.names.note_chat.Goals as goal

pub returns-then-is_some : goal.returns-then-is_some
returns-then-is_some c =
    let there : is_some (map_of.get c.args.chats.now c.args.key) ≡ true =
    ap is_some (sym c.get.ensures) ∙ still_some c.get.result ∙ sym c.is_some.ensures ∙ c.if-is_some.true in
    on_ok_weaker c.note.result (λ more other.
    more other
    ∙ or_comm (key_eq c.args.key other) (has_key c.args.keys.now other)
    ∙ ap (λ b. has_key c.args.keys.now other || b)
    (key_turn c.args.key other ∙ sym (and-true (key_eq other c.args.key)) ∙ ap (λ b. key_eq other c.args.key && b) (sym there))) c.note.ensures.ok
