use Rattle.std.proofs.Common.{◌≡◌, ◌++◌, map, take}
use Rattle.group_roster.proofs.setters.join.Given as goal

abbrev pub invariant-loop-newcomer : goal.invariant-loop-newcomer
invariant-loop-newcomer l = l.joined ≡ l.fn.joined ++ map (λ _. l.spot) (take l._newcomer-index l.newcomers)
