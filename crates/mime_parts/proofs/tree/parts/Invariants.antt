use Rattle.std.proofs.Common.{◌≡◌, ◌≤◌, ◌+◌, ◌-◌, All, length, vec_len}
use Rattle.mime_parts.specs.Trees.{IsNodeWithin, tree}
use Rattle.mime_parts.specs.Walks.{IsWithin, coming}
use Rattle.mime_parts.proofs.tree.parts.Given as goal

abbrev pub invariant-loop-next : goal.invariant-loop-next
invariant-loop-next l = record {
  few : vec_len l.walk.nodes + vec_len l.walk.work ≤ 1000;
  some : 1 ≤ vec_len l.walk.nodes;
  nodes : All (IsNodeWithin (length l.body)) l.walk.nodes.items;
  work : All (λ w. IsWithin (length l.body) w.span) l.walk.work.items;
  coming : coming l.body l.walk.nodes.items l.walk.work.items ≡ tree l.header l.body;
}

abbrev pub decreases-loop-next : goal.decreases-loop-next
decreases-loop-next l = 1000 - vec_len l.walk.nodes
