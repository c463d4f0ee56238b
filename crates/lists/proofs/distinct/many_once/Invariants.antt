use Rattle.std.proofs.Common.{◌≡◌}
use Rattle.std.specs.BTreeSet.{contains}
use Rattle.std.specs.List.{list_any}
use Rattle.lists.specs.Distinct.{firsts}
use Rattle.lists.proofs.distinct.many_once.Given as goal

-- the set has the values so far
abbrev pub invariant-loop-value : goal.invariant-loop-value
invariant-loop-value g l = record {
  members : (q : g.row.T.Denot) → contains g.T.Ord.cmp l.seen q ≡ list_any (λ x. g.T.PartialEq.eq x q) l.yielded;
  so_far : l.once.items ≡ firsts g.T.PartialEq.eq l.yielded;
}
