use Rattle.std.proofs.Common.{◌≡◌, ◌+◌, ◌-◌, ◌≤◌, length, take}
use Rattle.lists.specs.Chunks.{joined}
use Rattle.lists.proofs.chunks.place_of.Given as goal

abbrev pub invariant-loop-chunk : goal.invariant-loop-chunk
invariant-loop-chunk g l = record {
  within : l.chunk ≤ length l.chunks;
  sum : length (joined (take l.chunk l.chunks)) + l.rest ≡ l.index;
}

abbrev pub decreases-loop-chunk : goal.decreases-loop-chunk
decreases-loop-chunk g l = length l.chunks - l.chunk
