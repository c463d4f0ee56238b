use Rattle.std.proofs.Common.{◌≡◌, ◌-◌, ◌≤◌, length}
use Rattle.std.specs.List.{AllWithin}
use Rattle.std.specs.List.Sorted.{IsNonDecreasingBy}
use Rattle.std.specs.Ordering.{ordering_index}
use Rattle.std.specs.declared.cmp.Ordering.TheVariants.{Less, Greater}
use Rattle.lists.proofs.chunked_list.ChunkedList.binary_search.Given as goal

abbrev pub invariant-loop-start : goal.invariant-loop-start
invariant-loop-start g l = record {
  rises : l.start ≤ l.end;
  within : l.end ≤ length l.self;
  before : IsNonDecreasingBy (λ x. ordering_index (g.T.Ord.cmp x l.value)) l.self → AllWithin (λ x. g.T.Ord.cmp x l.value ≡ Less) l.self 0 l.start;
  after : IsNonDecreasingBy (λ x. ordering_index (g.T.Ord.cmp x l.value)) l.self → AllWithin (λ x. g.T.Ord.cmp x l.value ≡ Greater) l.self l.end (length l.self);
}

abbrev pub decreases-loop-start : goal.decreases-loop-start
decreases-loop-start g l = l.end - l.start
