use Rattle.std.proofs.Common.{◌≡◌, false}
use Rattle.card_count.proofs.count.Given as goal

abbrev pub invariant-loop-mails : goal.invariant-loop-mails
invariant-loop-mails g l = l.reader.refused ≡ false
