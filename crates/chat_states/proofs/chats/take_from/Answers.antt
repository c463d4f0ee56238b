use Rattle.std.proofs.Common.{sym, ap, ◌∙◌, ◌||◌}
use Rattle.std.proofs.lemmas.Result.{on_ok_weaker}
use Rattle.card_type.specs.Keys.{key_eq}
use Rattle.mailbox_model.proofs.ListLaws.{key_self}
use Rattle.chat_view.specs.Changes.{lets_go}
use Rattle.chat_states.specs.States.{has_key}
use Rattle.chat_states.proofs.Followed.{unsettled_now}
use Rattle.chat_states.proofs.chats.take_from.Goals as goal

pub returns-clause-when : goal.returns-clause-when
returns-clause-when c =
    let key = c.args.key.now in
    let old = has_key c.args.unsettled.now key in
    on_ok_weaker c.note.result (λ noted sorted. unsettled_now old (lets_go c.args.state.now c.args.spot.now) (has_key c.note.new.self key) (sym c.if-branch.false ∙ c.in_ok-take_settled.ensures.when sorted)
    (noted key ∙ (λ i. key_eq (c.in_ok-copy.ensures i) key || old) ∙ ap (λ b. b || old) (key_self key)))
    c.note.ensures.ok
