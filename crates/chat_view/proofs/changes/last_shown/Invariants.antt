use Rattle.std.proofs.Common.{◌≡◌, ◌≤◌, length, take}
use Rattle.lists.specs.Chunks.{joined}
use Rattle.chat_view.specs.Changes.{last_shown}
use Rattle.chat_view.proofs.changes.last_shown.Given as goal

-- no mark in the chunk or in a later one is one
abbrev pub invariant-loop-chunk : goal.invariant-loop-chunk
invariant-loop-chunk l = record {
  within : l.chunk ≤ length l.chunks;
  start : l.start ≡ length (joined (take l.chunk l.chunks));
  last : last_shown l.marks ≡ last_shown (joined (take l.chunk l.chunks));
}

abbrev pub decreases-loop-chunk : goal.decreases-loop-chunk
decreases-loop-chunk l = l.chunk
