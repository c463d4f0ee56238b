use Rattle.std.proofs.Common.{All}
use Rattle.chat_print.specs.Moments.{HasMoment}
use Rattle.call_tests.proofs.pages.list_rows.Given as goal

abbrev pub invariant-loop-listed : goal.invariant-loop-listed
invariant-loop-listed l = All HasMoment l.rows
