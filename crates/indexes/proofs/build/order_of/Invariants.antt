use Rattle.std.proofs.Common.{map}
use Rattle.std.specs.Map.Iter.{deref_pair}
use Rattle.indexes.proofs.OrderedDates.{AreDates}
use Rattle.indexes.proofs.build.order_of.Given as goal

-- the dates are those of the states so far
abbrev pub invariant-loop-key : goal.invariant-loop-key
invariant-loop-key l = AreDates (map deref_pair l.yielded) l.order
