use Rattle.std.proofs.Common.{All}
use Rattle.chat_print.specs.Moments.{RowHasMoments}
use Rattle.call_tests.proofs.pages.full_rows.Given as goal

abbrev pub invariant-loop-full : goal.invariant-loop-full
invariant-loop-full l = All RowHasMoments l.rows
