use Rattle.std.proofs.Common.{◌≡◌, ◌≤◌, ◌+◌, ◌++◌, take}
use Rattle.std.specs.Prelude.{filter_map, sum_by}
use Rattle.indexes.specs.Costs.{times_named}
use Rattle.indexes.proofs.Paged.{row_there}
use Rattle.indexes.proofs.pages.add_rows.Given as goal

-- the rows at the spots so far are added
abbrev pub invariant-loop-spot : goal.invariant-loop-spot
invariant-loop-spot g l =
    let m = l.mailbox.mailbox in
    record {
      shown : l.rows ≡ l.fn.rows ++ filter_map (row_there m) (take l.spot-index l.spots);
      read : l.steps ≤ l.fn.steps + sum_by (λ s. 1 + times_named m s.id) (take l.spot-index l.spots);
    }
