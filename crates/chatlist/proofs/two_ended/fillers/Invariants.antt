use Rattle.std.proofs.Common.{◌≡◌, length}
use Rattle.chatlist.proofs.two_ended.fillers.Given as goal

abbrev pub invariant-loop : goal.invariant-loop
invariant-loop g l = length l.made.items ≡ l.counter
