-- The parts of a mail with their contents, and the parameters of their types.
use Rattle.std.specs.Prelude.{ℕ, if◌then◌else◌, List, [], map, unwrap_or}
use Rattle.mail_headers.specs.Headers.{Head}
use Rattle.mime_parts.specs.declared.part.PartNode.{PartNode}
use Rattle.mime_fields.specs.Kinds.{Kind, param_of}
use Rattle.mime_parts.specs.Multiparts.{bytes_at}
use Rattle.mime_parts.specs.Trees.{tree}
use Rattle.transfer_code.specs.Encodings.{decode_body}

-- what contracts see of a `Part`: its node, and its content, decoded
pub record Part : Type 0 where
  pub node : PartNode
  pub content : List ℕ

-- what a node holds in a body, decoded; nothing where its parts are in the tree
abbrev pub content_of : List ℕ → PartNode → List ℕ
content_of body node =
    if node.leaf then decode_body node.encoding (bytes_at body (record { start = node.start; end = node.end })) else []

abbrev pub part : List ℕ → PartNode → Part
part body node = record { node = node; content = content_of body node }

-- the parts of a mail of this header and this body, in preorder
abbrev pub parts_of : Head → List ℕ → List Part
parts_of head body = map (part body) (tree head body)

-- the value of a parameter, or nothing
abbrev pub param : Kind → List ℕ → List ℕ
param kind name = unwrap_or (param_of kind name) []
