use Rattle.std.proofs.Common.{◌≡◌, sym, ap, ◌∙◌, subst, true, map, arith}
use Rattle.std.specs.Prelude.{is_some, sum_by}
use Rattle.std.specs.FinMap as map_of
use Rattle.std.specs.List.{AllByRecursion}
use Rattle.std.proofs.lemmas.List.{take_all}
use Rattle.mailbox_model.specs.ChatList.{list_row}
use Rattle.indexes.specs.Costs.{chat_cost}
use Rattle.indexes.proofs.Listed.{each_in_order, rows_in_order, cost_in_order}
use Rattle.indexes.proofs.PagedSteps.{holds_at, map_next, sum_next, sum_within}
use Rattle.indexes.proofs.indexes.Indexes.list_rows.Goals as goal

pub loop-key-init : goal.loop-key-init
loop-key-init g c = record { made = c.new-rows.ensures; read = omega arith }

pub list_row-requires-clause-there : goal.list_row-requires-clause-there
list_row-requires-clause-there g c =
    let keys = c.order-key-items.result.now in
    let there = subst (AllByRecursion (λ key. is_some (map_of.get c.args.self.now.chats key) ≡ true)) (sym c.order-key-items.ensures.keys) (each_in_order c.args.self.now.chats c.args.self.now.order c.requires.kept.order) in
    holds_at keys c.loop-key.key-index c.key-item.result c.loop-key-test.true c.key-item.is (λ key. is_some (map_of.get c.args.self.now.chats key) ≡ true) there

pub returns-in_err-list_row-clause-cost : goal.returns-in_err-list_row-clause-cost
returns-in_err-list_row-clause-cost g c =
    omega (arith, c.loop-key.invariant.read, c.list_row.ensures.cost, sum_within c.order-key-items.result.now c.loop-key.key-index c.key-item.result c.loop-key-test.true c.key-item.is (chat_cost c.args.mailbox.now.mailbox), ap (sum_by (chat_cost c.args.mailbox.now.mailbox)) c.order-key-items.ensures.keys, cost_in_order c.args.mailbox.now.mailbox c.args.self.now.chats c.args.self.now.order c.requires.kept.chats c.requires.kept.order c.order-key-items.ensures.sorted c.order-key-items.ensures.once)

pub returns-in_err-push-clause-cost : goal.returns-in_err-push-clause-cost
returns-in_err-push-clause-cost g c =
    omega (arith, c.loop-key.invariant.read, c.list_row.ensures.cost, sum_within c.order-key-items.result.now c.loop-key.key-index c.key-item.result c.loop-key-test.true c.key-item.is (chat_cost c.args.mailbox.now.mailbox), ap (sum_by (chat_cost c.args.mailbox.now.mailbox)) c.order-key-items.ensures.keys, cost_in_order c.args.mailbox.now.mailbox c.args.self.now.chats c.args.self.now.order c.requires.kept.chats c.requires.kept.order c.order-key-items.ensures.sorted c.order-key-items.ensures.once)

pub loop-key-preserved : goal.loop-key-preserved
loop-key-preserved g c =
    let m = c.args.mailbox.now.mailbox in
    let keys = c.order-key-items.result.now in
    record {
      made = c.in_ok-push.ensures.ok ∙ map_next keys c.loop-key.key-index c.key-item.result c.loop-key-test.true c.key-item.is (list_row m) c.loop-key.rows c.loop-key.invariant.made c.in_ok-list_row.field-0 c.in_ok-list_row.ensures.row;
      read = omega (arith, c.loop-key.invariant.read, c.list_row.ensures.cost, sum_next keys c.loop-key.key-index c.key-item.result c.loop-key-test.true c.key-item.is (chat_cost m));
    }

pub returns-clause-rows : goal.returns-clause-rows
returns-clause-rows g c =
    let m = c.args.mailbox.now.mailbox in
    c.loop-key.invariant.made ∙ ap (map (list_row m)) (take_all c.loop-key.key-index c.order-key-items.result.now c.loop-key-test.false ∙ c.order-key-items.ensures.keys)
    ∙ rows_in_order m c.args.self.now.chats c.args.self.now.order c.requires.kept.chats c.requires.kept.order c.order-key-items.ensures.sorted c.order-key-items.ensures.once

pub returns-clause-cost : goal.returns-clause-cost
returns-clause-cost g c =
    omega (arith, c.loop-key.invariant.read, ap (sum_by (chat_cost c.args.mailbox.now.mailbox)) (take_all c.loop-key.key-index c.order-key-items.result.now c.loop-key-test.false), ap (sum_by (chat_cost c.args.mailbox.now.mailbox)) c.order-key-items.ensures.keys, cost_in_order c.args.mailbox.now.mailbox c.args.self.now.chats c.args.self.now.order c.requires.kept.chats c.requires.kept.order c.order-key-items.ensures.sorted c.order-key-items.ensures.once)
