use Rattle.std.proofs.Common.{ap, ◌∙◌, arith}
use Rattle.std.specs.FinMap as map_of
use Rattle.indexes.specs.Kept.{deadline_at}
use Rattle.indexes.proofs.Loads.{few_present, few_contents, rows_read}
use Rattle.indexes.proofs.indexes.Indexes.build.Goals as goal

pub add_cards-requires-clause-none : goal.add_cards-requires-clause-none
add_cards-requires-clause-none g c = c.new-indexes.ensures.cards c.args.mailbox.now.mailbox.me

pub returns-in_err-add_cards-clause-cost : goal.returns-in_err-add_cards-clause-cost
returns-in_err-add_cards-clause-cost g c = omega (arith, c.in_err-add_cards.ensures.cost)

pub returns-in_err-add_cards-clause-load : goal.returns-in_err-add_cards-clause-load
returns-in_err-add_cards-clause-load g c =
    omega (arith, c.in_err-add_cards.ensures.cost, few_present c.args.mailbox.now.mailbox)

pub add_rows-requires-clause-no_states : goal.add_rows-requires-clause-no_states
add_rows-requires-clause-no_states g c key =
    ap (λ x. map_of.get x.chats key) c.in_ok-add_cards.ensures.rest ∙ c.new-indexes.ensures.states c.args.mailbox.now.mailbox key

pub add_rows-requires-clause-no_deadlines : goal.add_rows-requires-clause-no_deadlines
add_rows-requires-clause-no_deadlines g c uid =
    ap (λ x. deadline_at x.timers uid) c.in_ok-add_cards.ensures.rest ∙ c.new-indexes.ensures.deadlines c.args.mailbox.now.mailbox uid

pub returns-in_err-add_rows-clause-cost : goal.returns-in_err-add_rows-clause-cost
returns-in_err-add_rows-clause-cost g c =
    omega (arith, c.in_err-add_rows.ensures.cost, c.in_ok-add_cards.ensures.cost, rows_read c.args.mailbox.now.mailbox)

pub returns-in_err-add_rows-clause-load : goal.returns-in_err-add_rows-clause-load
returns-in_err-add_rows-clause-load g c =
    let m = c.args.mailbox.now.mailbox in
    omega (arith, c.in_err-add_rows.ensures.cost, c.in_ok-add_cards.ensures.cost, few_present m, few_contents m)

pub returns-in_err-indexes-clause-cost : goal.returns-in_err-indexes-clause-cost
returns-in_err-indexes-clause-cost g c =
    omega (arith, c.in_ok-add_rows.ensures.cost, c.in_ok-add_cards.ensures.cost, rows_read c.args.mailbox.now.mailbox)

pub returns-in_err-indexes-clause-load : goal.returns-in_err-indexes-clause-load
returns-in_err-indexes-clause-load g c =
    let m = c.args.mailbox.now.mailbox in
    omega (arith, c.in_ok-add_rows.ensures.cost, c.in_ok-add_cards.ensures.cost, few_present m, few_contents m)

pub returns-clause-cost : goal.returns-clause-cost
returns-clause-cost g c =
    omega (arith, c.in_ok-add_rows.ensures.cost, c.in_ok-add_cards.ensures.cost, rows_read c.args.mailbox.now.mailbox)

pub returns-clause-load : goal.returns-clause-load
returns-clause-load g c =
    let m = c.args.mailbox.now.mailbox in
    omega (arith, c.in_ok-add_rows.ensures.cost, c.in_ok-add_cards.ensures.cost, few_present m, few_contents m)
