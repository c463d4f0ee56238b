use Rattle.std.proofs.lemmas.List.Elements.{All-push}
use Rattle.chat_print.specs.Moments.{RowHasMoments}
use Rattle.call_tests.proofs.pages.full_rows.Goals as goal

pub loop-full-preserved : goal.loop-full-preserved
loop-full-preserved c = rw c.in_ok-push.ensures.ok (All-push RowHasMoments c.loop-full.rows c.in_ok-full_row.field-0 c.loop-full.invariant c.in_ok-full_row.ensures)
