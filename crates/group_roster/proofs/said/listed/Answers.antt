use Rattle.std.proofs.Common.{◌≡◌, [], ◌∷◌, ◌++◌, ap, ◌∙◌, subst, IfOk}
use Rattle.std.specs.Option.{option_map_or, option_to_list}
use Rattle.lists.specs.Distinct.{each_once}
use Rattle.mailbox_model.specs.Lists.{without}
use Rattle.group_roster.proofs.said.listed.Goals as goal

pub returns : goal.returns
returns c =
    let card = c.args.card.now in
    let sender = c.in_ok-say.ensures [] c.new-said.ensures.empty in
    let to = c.in_ok-say_all.ensures (card.from ∷ []) sender ∙ ap (λ xs. each_once (card.from ∷ xs)) c.as_slice.ensures in
    let all = c.in_ok-say_option.ensures (card.from ∷ card.to) to in
    let left = c.take_back.ensures ((card.from ∷ card.to) ++ option_to_list card.added) all
    ∙ ap (λ xs. option_map_or (λ removed. without removed xs) card.removed xs) all in
    subst (λ l. IfOk c.list_of.result (λ members. members ≡ l)) left c.list_of.ensures
