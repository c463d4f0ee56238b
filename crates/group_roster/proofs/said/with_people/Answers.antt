use Rattle.std.proofs.Common.{◌≡◌, [], ◌∷◌, ◌++◌, ap, ◌∙◌, subst, IfOk}
use Rattle.std.proofs.lemmas.List.{append_assoc}
use Rattle.lists.specs.Distinct.{each_once}
use Rattle.group_roster.proofs.said.with_people.Goals as goal

pub returns : goal.returns
returns c =
    let card = c.args.card.now in
    let before = c.args.members.now in
    let members = c.in_ok-say_all.ensures [] c.new-said.ensures.empty in
    let sender = c.in_ok-say.ensures before members in
    let to = c.in_ok-say_all-2.ensures (before ++ card.from ∷ []) sender ∙ ap (λ xs. each_once ((before ++ card.from ∷ []) ++ xs)) c.as_slice.ensures in
    let cc = c.in_ok-say_all-3.ensures ((before ++ card.from ∷ []) ++ card.to) to ∙ ap (λ xs. each_once (((before ++ card.from ∷ []) ++ card.to) ++ xs)) c.as_slice-2.ensures in
    let all = cc ∙ ap each_once (append_assoc (before ++ card.from ∷ []) card.to card.cc ∙ append_assoc before (card.from ∷ []) (card.to ++ card.cc)) in
    subst (λ l. IfOk c.list_of.result (λ members. members ≡ l)) all c.list_of.ensures
