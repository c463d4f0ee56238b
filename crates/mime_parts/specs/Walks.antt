-- Parts that are read one after the other, in preorder.
use Rattle.std.specs.Prelude.{ℕ, ◌+◌, ◌≤◌, Bool, List, [], ◌∷◌, ◌++◌, length, reverse, Option, option_map}
use Rattle.mime_parts.specs.declared.multipart.Span.{Span}
use Rattle.mime_parts.specs.declared.part.PartNode.{PartNode}
use Rattle.mime_parts.specs.declared.tree.Work.{Work}
use Rattle.mime_parts.specs.Trees.{grown, part_at}

abbrev pub work_at : ℕ → Bool → Span → Work
work_at levels digest span = record { levels = levels; digest = digest; span = span }

-- the nodes of parts that are still to be read, and of all parts in them, where so many nodes are known
abbrev pub walked : List ℕ → List Work → ℕ → List PartNode
walked body [] known = []
walked body (w ∷ ws) known =
    let first = grown body w.levels w.digest (part_at body w.span) known in
    first.nodes ++ walked body ws first.known

-- all nodes at the end of a walk that has read some, and is to read others, of which the last comes first
abbrev pub coming : List ℕ → List PartNode → List Work → List PartNode
coming body nodes work = nodes ++ walked body (reverse work) (length nodes + length work)

-- a span in so many bytes
abbrev pub IsWithin : ℕ → Span → Type 0
IsWithin len span = (span.start ≤ span.end) × (span.end ≤ len)

-- a part that is begun goes on to an offset
abbrev pub extended : Option Span → ℕ → Option Span
extended part end = option_map (λ span. record { start = span.start; end = end }) part
