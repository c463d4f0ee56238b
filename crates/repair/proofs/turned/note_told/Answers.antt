use Rattle.std.proofs.Common.{sym, ap, ◌∙◌, ◌||◌, ◌∷◌}
use Rattle.std.specs.List.{list_any}
use Rattle.std.specs.Option.{option_copied, option_to_list}
use Rattle.std.proofs.Math.Bool.{or_assoc}
use Rattle.std.proofs.lemmas.List.Folds.{list_any-append}
use Rattle.std.proofs.lemmas.Result.{on_ok_weaker}
use Rattle.card_type.specs.declared.card.Card.{Card}
use Rattle.card_type.specs.Effects.{is_among, names}
use Rattle.mailbox_model.specs.Lists.{Bytes}
use Rattle.repair.proofs.turned.note_told.Goals as goal

pub returns : goal.returns
returns c =
    let before = c.args.ids.now.keys in
    let first = option_to_list (option_copied c.args.cards.now.first) in
    let second = option_to_list (option_copied c.args.cards.now.second) in
    let about = λ (id : Bytes) (card : Card). is_among (card.id ∷ names card) id in
    on_ok_weaker c.note_about-2.result (λ more m n turn are id.
    more id ∙ ap (λ b. b || list_any (about id) second) (c.in_ok-note_about.ensures id)
    ∙ or_assoc (is_among before id) (list_any (about id) first) (list_any (about id) second)
    ∙ ap (λ b. is_among before id || b) (sym (list_any-append (about id) first second) ∙ sym (are (about id)))) c.note_about-2.ensures
