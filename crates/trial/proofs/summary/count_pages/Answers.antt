use Rattle.std.proofs.Common.{◌≡◌, ℕ, ◌≤◌, ◌+◌, ◌*◌, length, take, ap, sym, ◌∙◌, arith}
use Rattle.std.specs.Prelude.{sum_by}
use Rattle.std.specs.List.{list_any}
use Rattle.card_type.specs.Keys.{key_eq}
use Rattle.mailbox_model.specs.declared.list.ListPage.{ListPage}
use Rattle.mailbox_model.specs.declared.list.ListRow.{ListRow}
use Rattle.mailbox_model.specs.ChatList.{list_page}
use Rattle.mailbox_model.specs.Pages.{page_of}
use Rattle.indexes.specs.Costs.{page_cost}
use Rattle.indexes.proofs.PagedSteps.{sum_next, sum_within}
use Rattle.trial.proofs.Bounds.{list_is_short, page_is_short}
use Rattle.trial.proofs.PageLaws.{has_key_at}
use Rattle.trial.proofs.summary.count_pages.Goals as goal

pub shown_in-requires : goal.shown_in-requires
shown_in-requires g c =
    let m = c.args.engine.now.mailbox in
    let rows = c.as_slice-row-items.result.now in
    let row = c.row-item.result in
    let same : rows ≡ (list_page m).rows = c.as_slice-row-items.ensures ∙ ap (λ (p : ListPage). p.rows) c.requires.list in
    record {
      there = c.list_has_each_chat.ensures.pages m row.key ∙ ap (list_any (λ (r : ListRow). key_eq row.key r.key)) (sym same)
          ∙ has_key_at rows c.loop-row.row-index row c.loop-row-test.true c.row-item.is;
    }

pub returns-in_err-shown-clause-cost : goal.returns-in_err-shown-clause-cost
returns-in_err-shown-clause-cost g c =
    let m = c.args.engine.now.mailbox in
    let rows = c.as_slice-row-items.result.now in
    let same : rows ≡ (list_page m).rows = c.as_slice-row-items.ensures ∙ ap (λ (p : ListPage). p.rows) c.requires.list in
    omega (
      arith,
      c.loop-row.invariant.read,
      c.shown_in.ensures.cost,
      sum_within rows c.loop-row.row-index c.row-item.result c.loop-row-test.true c.row-item.is (λ (row : ListRow). page_cost m row.key),
      ap (sum_by (λ (row : ListRow). page_cost m row.key)) same,
    )

pub overflow_add-shown : goal.overflow_add-shown
overflow_add-shown g c =
    let m = c.args.engine.now.mailbox in
    let rows = c.as_slice-row-items.result.now in
    let same : rows ≡ (list_page m).rows = c.as_slice-row-items.ensures ∙ ap (λ (p : ListPage). p.rows) c.requires.list in
    let contents = c.a_mailbox_is_bounded.ensures.contents m c.keeps_rules.ensures in
    let short : length (list_page m).rows ≤ 65536 = list_is_short m (c.list_has_each_chat.ensures.rows m) contents in
    let page : length (page_of m c.row-item.result.key).rows ≤ 65536 = page_is_short m c.row-item.result.key contents in
    let few : c.loop-row.shown ≤ 65536 * c.loop-row.row-index = c.loop-row.invariant.few_shown in
    omega (arith, few, short, page, c.in_ok-shown.ensures.count, ap length same, c.loop-row-test.true)

pub overflow_add-fresh : goal.overflow_add-fresh
overflow_add-fresh g c =
    let m = c.args.engine.now.mailbox in
    let rows = c.as_slice-row-items.result.now in
    let same : rows ≡ (list_page m).rows = c.as_slice-row-items.ensures ∙ ap (λ (p : ListPage). p.rows) c.requires.list in
    let contents = c.a_mailbox_is_bounded.ensures.contents m c.keeps_rules.ensures in
    let short : length (list_page m).rows ≤ 65536 = list_is_short m (c.list_has_each_chat.ensures.rows m) contents in
    omega (arith, c.loop-row.invariant.few_fresh, short, c.fresh_in.ensures.small, ap length same, c.loop-row-test.true)

pub loop-row-preserved : goal.loop-row-preserved
loop-row-preserved g c =
    let m = c.args.engine.now.mailbox in
    let rows = c.as_slice-row-items.result.now in
    let i = c.loop-row.row-index in
    let row = c.row-item.result in
    let past = c.loop-row.invariant in
    let contents = c.a_mailbox_is_bounded.ensures.contents m c.keeps_rules.ensures in
    let page : length (page_of m row.key).rows ≤ 65536 = page_is_short m row.key contents in
    let few : c.loop-row.shown ≤ 65536 * i = past.few_shown in
    let more : (f : ListRow → ℕ) → sum_by f (take (i + 1) rows) ≡ sum_by f (take i rows) + f row = sum_next rows i row c.loop-row-test.true c.row-item.is in
    record {
      read = omega (arith, past.read, c.shown_in.ensures.cost, more (λ row. page_cost m row.key));
      shown = omega (arith, past.shown, c.in_ok-shown.ensures.count, more (λ row. length (page_of m row.key).rows));
      fresh = omega (arith, past.fresh, c.fresh_in.ensures.count, more (λ row. row.fresh));
      few_shown = omega (arith, few, page, c.in_ok-shown.ensures.count);
      few_fresh = omega (arith, past.few_fresh, c.fresh_in.ensures.small);
    }
