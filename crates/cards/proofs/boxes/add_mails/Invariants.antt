use Rattle.std.proofs.Common.{◌≡◌, false}
use Rattle.cards.proofs.boxes.add_mails.Given as goal

abbrev pub invariant-loop-number : goal.invariant-loop-number
invariant-loop-number g l = l.reader.refused ≡ false
