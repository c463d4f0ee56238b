-- What is kept of the leaves of a mail, as laws of the list of its parts.
use Rattle.std.specs.Prelude.{◌≡◌, Bool, false, ◌&&◌, not, List, filter, map}
use Rattle.std.specs.List.{list_any}
use Rattle.chat_card.specs.Parts.{Part}
use Rattle.chat_card.specs.Shown.{Kept, Text, File, files, is_alternative, is_any_text, kept_of}

abbrev pub is_leaf : Part → Bool
is_leaf p = p.node.leaf

-- a leaf that is no text of any type
abbrev pub is_other : Part → Bool
is_other p = is_leaf p && not (is_any_text p.node)

abbrev pub part_of : Kept → Part
part_of (Text p) = p
part_of (File p) = p

-- only texts are dropped: each other leaf is a file, once and in the order of the leaves
abbrev pub KeepsOthers : List Part → Type 0
KeepsOthers parts = filter is_other (files parts) ≡ filter is_other parts

-- and they are dropped only from alternatives: where there are none, each leaf is kept, once and in their order
abbrev pub KeepsLeaves : List Part → Type 0
KeepsLeaves parts = list_any (λ p. is_alternative p.node.kind) parts ≡ false → map part_of (kept_of parts) ≡ filter is_leaf parts
