use Rattle.std.proofs.Common.{◌≡◌, false}
use Rattle.cards.proofs.steps.add_steps.Given as goal

abbrev pub invariant-loop : goal.invariant-loop
invariant-loop g l = l.reader.refused ≡ false
