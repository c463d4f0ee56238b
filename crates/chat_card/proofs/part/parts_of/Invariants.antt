use Rattle.std.proofs.Common.{◌≡◌, ◌++◌, All, length, map, vec_len}
use Rattle.std.specs.Prelude.{reverse}
use Rattle.mime_parts.specs.Trees.{IsNodeWithin}
use Rattle.chat_card.specs.Parts.{part, parts_of}
use Rattle.chat_card.proofs.part.parts_of.Given as goal

abbrev pub invariant-loop-node : goal.invariant-loop-node
invariant-loop-node l = record {
  within : All (IsNodeWithin (length l.body)) l.nodes.items;
  parts : map (part l.body) l.nodes.items ++ reverse l.found.items ≡ parts_of l.header l.body;
}

abbrev pub decreases-loop-node : goal.decreases-loop-node
decreases-loop-node l = vec_len l.nodes
