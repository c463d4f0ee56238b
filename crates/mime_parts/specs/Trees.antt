-- The tree of the parts of a mail (RFC 2046, section 5.1), in preorder.
use Rattle.std.specs.Prelude.{ℕ, zero, suc, ◌+◌, ◌-◌, ◌==◌, ◌≤◌, Bool, false, true, not, ◌&&◌, nat_le, nat_lt, if◌then◌else◌, List, [], ◌∷◌, ◌++◌, length, codes, bytes_eq, Option, Some, None, option_map, unwrap_or}
use Rattle.kit.specs.Options.{◌>>=◌}
use Rattle.mail_headers.specs.Headers.{Head, field, header_of}
use Rattle.transfer_code.specs.Encodings.{encoding_of}
use Rattle.mime_parts.specs.declared.multipart.Span.{Span}
use Rattle.mime_parts.specs.declared.part.PartNode.{PartNode}
use Rattle.mime_fields.specs.Kinds.{Kind, content_type_in, disposition, param_of}
use Rattle.mime_parts.specs.Multiparts.{bytes_at, spans}

-- a part: its header, and where its content is in the body of the mail
pub record Part : Type 0 where
  pub head : Head
  pub span : Span

abbrev pub part : Head → Span → Part
part head span = record { head = head; span = span }

-- the part whose header and content have a span
abbrev pub part_at : List ℕ → Span → Part
part_at body span =
    let head = header_of (bytes_at body span) in
    part head (record { start = span.start + head.body_at; end = span.end })

abbrev pub kind_of : Bool → Head → Kind
kind_of digest head = content_type_in digest (field head (codes "Content-Type"))

-- a value, unless it is empty
abbrev pub unless_empty : List ℕ → Option (List ℕ)
unless_empty value = if nat_lt 0 (length value) then Some value else None

-- the file name: that which the disposition gives, or else the parameter `name` of the type
abbrev pub file_name : List ℕ → Kind → List ℕ
file_name given kind = unwrap_or (unless_empty given) (unwrap_or (param_of kind (codes "name")) [])

-- the node of a part below which so many levels may lie
abbrev pub node_of : ℕ → Bool → Part → Bool → PartNode
node_of levels digest part leaf =
    let kind = kind_of digest part.head in
    let named = disposition (field part.head (codes "Content-Disposition")) in
    record {
      depth = 16 - levels;
      kind = kind;
      encoding = encoding_of (field part.head (codes "Content-Transfer-Encoding"));
      attach = named.attach;
      reaction = named.reaction;
      name = file_name named.name kind;
      start = part.span.start;
      end = part.span.end;
      leaf = leaf;
    }

abbrev pub is_kind : List ℕ → List ℕ → Kind → Bool
is_kind top sub kind = bytes_eq kind.top top && bytes_eq kind.sub sub

-- the boundary at which a type is cut: that of a multipart, unless it is encrypted (RFC 1847, section 2.2)
abbrev pub boundary_of : Kind → Option (List ℕ)
boundary_of kind =
    if bytes_eq kind.top (codes "multipart") && not (bytes_eq kind.sub (codes "encrypted"))
    then param_of kind (codes "boundary") >>= unless_empty else None

-- Where the parts in a part of a type are, if it is opened: some levels may lie below it, it has parts, and no more than
-- 1,000 nodes are known with those, of which there were so many.
abbrev pub opened : List ℕ → ℕ → Kind → Span → ℕ → List Span
opened body zero kind span known = []
opened body (suc levels) kind span known =
    let found = unwrap_or (option_map (λ boundary. spans boundary span.start (bytes_at body span)) (boundary_of kind)) [] in
    if nat_le (known + length found) 1000 then found else []

-- nodes in preorder, and how many are known with the parts that are still to be read
pub record Grown : Type 0 where
  pub nodes : List PartNode
  pub known : ℕ

-- parts one after the other
abbrev pub each : (Span → ℕ → Grown) → List Span → ℕ → Grown
each grow [] known = record { nodes = []; known = known }
each grow (s ∷ ss) known =
    let first = grow s known in
    let more = each grow ss first.known in
    record { nodes = first.nodes ++ more.nodes; known = more.known }

abbrev pub is_digest : Kind → Bool
is_digest kind = is_kind (codes "multipart") (codes "digest") kind

-- a part and all parts in it, below which so many levels may lie, in a digest or not, where so many nodes are known
abbrev pub grown : List ℕ → ℕ → Bool → Part → ℕ → Grown
grown body zero digest part known = record { nodes = node_of 0 digest part true ∷ []; known = known }
grown body (suc levels) digest part known =
    let kind = kind_of digest part.head in
    let within = opened body (suc levels) kind part.span known in
    let below = each (λ span. grown body levels (is_digest kind) (part_at body span)) within (known + length within) in
    record { nodes = node_of (suc levels) digest part (length within == 0) ∷ below.nodes; known = below.known }

-- the content of a node is in so many bytes
abbrev pub IsNodeWithin : ℕ → PartNode → Type 0
IsNodeWithin len node = (node.start ≤ node.end) × (node.end ≤ len)

-- the nodes of a mail of this header and this body
abbrev pub tree : Head → List ℕ → List PartNode
tree head body = (grown body 16 false (part head (record { start = 0; end = length body })) 1).nodes
