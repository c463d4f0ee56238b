use Rattle.std.proofs.Common.{◌≡◌, false}
use Rattle.told.proofs.mailbox_trial.all_arrive.Given as goal

-- no call of the reader failed
abbrev pub invariant-loop-number : goal.invariant-loop-number
invariant-loop-number g l = l.reader.refused ≡ false
