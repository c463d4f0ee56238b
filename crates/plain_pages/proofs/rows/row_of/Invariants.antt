use Rattle.std.proofs.Common.{◌≤◌, length}
use Rattle.plain_pages.proofs.rows.row_of.Given as goal

-- the row has no more updates than were brought
abbrev pub invariant-loop-by : goal.invariant-loop-by
invariant-loop-by l = length l.maker.row.updates ≤ l.brought
