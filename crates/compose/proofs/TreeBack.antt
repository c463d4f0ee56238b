-- The parts of a mail of one text.
use Rattle.std.proofs.Common.{◌≡◌, ℕ, suc, ◌+◌, ◌-◌, ◌==◌, Bool, true, false, List, [], ◌∷◌, length, take, Option, None, refl, ap, ◌∙◌, arith}
use Rattle.std.specs.Prelude.{codes, nat_le, option_map, unwrap_or, if◌then◌else◌}
use Rattle.std.specs.Str.{is_utf8, chars}
use Rattle.std.specs.Str.Lossy.{utf8_lossy, utf8_valid_len, utf8_error_len}
use Rattle.std.proofs.lemmas.List.{take_all}
use Rattle.mail_headers.specs.Headers.{Head, field}
use Rattle.transfer_code.specs.declared.encoding.Encoding.{Encoding}
use Rattle.transfer_code.specs.declared.encoding.Encoding.TheVariants.{Base64}
use Rattle.transfer_code.specs.Encodings.{encoding_of}
use Rattle.mime_fields.specs.declared.disposition.Disposition.{Disposition}
use Rattle.mime_fields.specs.Kinds.{Kind, content_type_in, disposition}
use Rattle.mime_parts.specs.declared.multipart.Span.{Span}
use Rattle.mime_parts.specs.declared.part.PartNode.{PartNode}
use Rattle.mime_parts.specs.Multiparts.{bytes_at, spans}
use Rattle.mime_parts.specs.Trees.{Grown, Part, boundary_of, each, file_name, grown, is_digest, kind_of, node_of, part, part_at, tree}
use Rattle.compose.specs.Mails.{plain_type}

-- ---- what the written fields of a text say

abbrev pub plain_kind : Kind
plain_kind = record { top = codes "text"; sub = codes "plain"; params = record { name = codes "charset"; value = codes "utf-8" } ∷ [] }

pub plain_kind_back : content_type_in false plain_type ≡ plain_kind
unfolding utf8_lossy utf8_valid_len utf8_error_len is_utf8 chars lib.Utf8.encode
plain_kind_back = refl

-- what a disposition of no file says
abbrev pub disposed : Bool → Disposition
disposed reaction = record { attach = false; reaction = reaction; name = [] }

pub no_disposition : disposition [] ≡ disposed false
unfolding utf8_lossy utf8_valid_len utf8_error_len is_utf8 chars lib.Utf8.encode
no_disposition = refl

pub reaction_disposition : disposition (codes "reaction") ≡ disposed true
unfolding utf8_lossy utf8_valid_len utf8_error_len is_utf8 chars lib.Utf8.encode
reaction_disposition = refl

pub base64_back : encoding_of (codes "base64") ≡ Base64
base64_back = refl

-- ---- one leaf

either : (b : Bool) (xs : List Span) → xs ≡ [] → (if b then xs else []) ≡ []
either true xs none = none
either false xs none = refl

module _ (body : List ℕ) (levels : ℕ) (digest : Bool) (p : Part) (known : ℕ) where
  abbrev from_within : List Span → Grown
  from_within within =
      let below = each (λ span. grown body levels (is_digest (kind_of digest p.head)) (part_at body span)) within (known + length within) in
      record { nodes = node_of (suc levels) digest p (length within == 0) ∷ below.nodes; known = below.known }

  abbrev found_in : Option (List ℕ) → List Span
  found_in boundary =
      let found = unwrap_or (option_map (λ boundary. spans boundary p.span.start (bytes_at body p.span)) boundary) [] in
      if nat_le (known + length found) 1000 then found else []

  nothing_found : found_in None ≡ []
  nothing_found = either (nat_le (known + 0) 1000) [] refl

  pub grown_leaf : boundary_of (kind_of digest p.head) ≡ None → (grown body (suc levels) digest p known).nodes ≡ node_of (suc levels) digest p true ∷ []
  grown_leaf none = ap (λ boundary. (from_within (found_in boundary)).nodes) none ∙ ap (λ within. (from_within within).nodes) nothing_found

-- the node of a mail of one text in base64
abbrev pub text_node : Bool → List ℕ → PartNode
text_node reaction body =
    record { depth = 0; kind = plain_kind; encoding = Base64; attach = false; reaction = reaction; name = []; start = 0; end = length body; leaf = true }

-- the node of one text, of what its fields say
abbrev node_by : Kind → Encoding → Disposition → List ℕ → PartNode
node_by kind encoding told body =
    record { depth = 0; kind = kind; encoding = encoding; attach = told.attach; reaction = told.reaction; name = file_name told.name kind; start = 0; end = length body; leaf = true }

pub tree_text : (head : Head) (body : List ℕ) (reaction : Bool) → field head (codes "Content-Type") ≡ plain_type → field head (codes "Content-Transfer-Encoding") ≡ codes "base64"
    → disposition (field head (codes "Content-Disposition")) ≡ disposed reaction → tree head body ≡ text_node reaction body ∷ []
tree_text head body reaction type coding told =
    let kind : kind_of false head ≡ plain_kind = ap (content_type_in false) type ∙ plain_kind_back in
    let encoding = encoding_of (field head (codes "Content-Transfer-Encoding")) in
    let said = disposition (field head (codes "Content-Disposition")) in
    let p = part head (record { start = 0; end = length body }) in
    grown_leaf body 15 false p 1 (ap boundary_of kind)
    ∙ ap (λ kind. node_by kind encoding said body ∷ []) kind
    ∙ ap (λ said. node_by plain_kind encoding said body ∷ []) told
    ∙ ap (λ coding. node_by plain_kind (encoding_of coding) (disposed reaction) body ∷ []) coding

-- all of the body
pub whole_body : (body : List ℕ) → bytes_at body (record { start = 0; end = length body }) ≡ body
whole_body body =
    let all : length body - 0 ≡ length body = omega arith in
    ap (λ n. take n body) all ∙ take_all (length body) body (omega arith)
