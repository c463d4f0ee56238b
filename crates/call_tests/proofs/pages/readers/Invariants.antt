use Rattle.std.proofs.Common.{All}
use Rattle.chat_print.specs.Moments.{ReaderHasMoment}
use Rattle.call_tests.proofs.pages.readers.Given as goal

abbrev pub invariant-loop-reader : goal.invariant-loop-reader
invariant-loop-reader l = All ReaderHasMoment l.readers
