use Rattle.std.proofs.Common.{◌≡◌, ◌++◌, ◌+◌, map, vec_len}
use Rattle.std.specs.Prelude.{reverse}
use Rattle.mime_parts.specs.Walks.{work_at}
use Rattle.mime_parts.proofs.tree.push_work.Given as goal

abbrev pub invariant-loop-span : goal.invariant-loop-span
invariant-loop-span l = record {
  items : l.work.items ++ reverse (map (work_at l.levels l.digest) l.parts.items) ≡ l.fn.work.items ++ reverse (map (work_at l.levels l.digest) l.fn.parts.items);
  len : vec_len l.work + vec_len l.parts ≡ vec_len l.fn.work + vec_len l.fn.parts;
}

abbrev pub decreases-loop-span : goal.decreases-loop-span
decreases-loop-span l = vec_len l.parts
