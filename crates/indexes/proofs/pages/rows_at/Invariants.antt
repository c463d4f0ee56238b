use Rattle.std.proofs.Common.{◌≡◌, ◌≤◌, ◌+◌, take}
use Rattle.std.specs.Prelude.{filter_map, sum_by}
use Rattle.lists.specs.Chunks.{joined}
use Rattle.indexes.specs.Costs.{times_named}
use Rattle.indexes.proofs.Paged.{row_there}
use Rattle.indexes.proofs.pages.rows_at.Given as goal

-- the rows at the spots of the chunks so far are there
abbrev pub invariant-loop-chunk : goal.invariant-loop-chunk
invariant-loop-chunk g l =
    let m = l.mailbox.mailbox in
    record {
      shown : l.rows ≡ filter_map (row_there m) (joined (take l.chunk-index l.chunks));
      read : l.steps ≤ l.fn.steps + sum_by (λ s. 1 + times_named m s.id) (joined (take l.chunk-index l.chunks));
    }
