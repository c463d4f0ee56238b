use Rattle.std.proofs.Common.{sym, ◌∙◌, ◌++◌}
use Rattle.std.specs.List.{list_any}
use Rattle.std.specs.Option.{option_to_list}
use Rattle.repair.proofs.CardsOfTurns.{turned_pass}
use Rattle.repair.proofs.turned.turned_cards.Goals as goal

pub returns-clause-cards : goal.returns-clause-cards
returns-clause-cards g c q =
    turned_pass c.args.mailbox.now.mailbox c.args.view.now c.keeps_rules.ensures c.keeps_rules-2.ensures c.requires.uids q
    c.args.turn.now c.uids_of-first.result.0 c.uids_of-first.result.1 c.requires.turn c.uids_of-first.ensures
    ∙ (λ i. list_any q (option_to_list (sym c.card_of.ensures.card i) ++ option_to_list (sym c.card_of-2.ensures.card i)))
