use Rattle.std.proofs.Common.{◌≡◌, map}
use Rattle.std.specs.Map.Iter.{deref_pair}
use Rattle.indexes.proofs.pages.keys_of.Given as goal

-- the keys are those so far
abbrev pub invariant-loop-key : goal.invariant-loop-key
invariant-loop-key l = l.keys.items ≡ map (λ entry. entry.0) (map deref_pair l.yielded)
