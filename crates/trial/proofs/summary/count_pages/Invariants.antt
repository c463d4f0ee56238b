use Rattle.std.proofs.Common.{◌≡◌, ◌≤◌, ◌+◌, ◌*◌, length, take}
use Rattle.std.specs.Prelude.{sum_by}
use Rattle.mailbox_model.specs.Mailbox.{max_entries}
use Rattle.mailbox_model.specs.Pages.{page_of}
use Rattle.indexes.specs.Costs.{page_cost}
use Rattle.trial.proofs.summary.count_pages.Given as goal

-- the rows of the list so far are counted
abbrev pub invariant-loop-row : goal.invariant-loop-row
invariant-loop-row g l =
    let m = l.engine.mailbox in
    let rows = take l.row-index l.row-items in
    record {
      read : l.steps ≤ l.fn.steps + sum_by (λ row. page_cost m row.key) rows;
      shown : l.shown ≡ sum_by (λ row. length (page_of m row.key).rows) rows;
      fresh : l.fresh ≡ sum_by (λ row. row.fresh) rows;
      few_shown : l.shown ≤ max_entries * l.row-index;
      few_fresh : l.fresh ≤ 4294967295 * l.row-index;
    }
