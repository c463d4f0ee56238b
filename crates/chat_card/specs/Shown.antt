-- What a mail shows of its parts: which leaf is a text, which is a file, and which is dropped (RFC 2046, section 5.1.4;
-- RFC 2183).
use Rattle.std.specs.Prelude.{ℕ, ◌==◌, nat_lt, Bool, false, not, ◌&&◌, ◌||◌, if◌then◌else◌, List, [], ◌∷◌, ◌++◌, length, codes, bytes_eq, Option, Some, None}
use Rattle.std.specs.List.{cons_option, filter_map, join_with_byte}
use Rattle.kit.specs.Charsets.{charset_of, to_text}
use Rattle.kit.specs.Letters.{same_name}
use Rattle.flowed_text.specs.Flowed.{unflow, user_text}
use Rattle.mime_parts.specs.declared.part.PartNode.{PartNode}
use Rattle.mime_fields.specs.Kinds.{Kind}
use Rattle.mime_parts.specs.Trees.{is_kind}
use Rattle.chat_card.specs.Parts.{Part, param}

-- ---- the parts as trees

-- trees one after the other: the first part, the trees in it, and the trees that follow it
pub data Forest : Type 0 where
  Nothing : Forest
  Then : (first : Part) → (within : Forest) → (more : Forest) → Forest

-- the leading trees that are deeper than a part at a depth: those in it
abbrev pub deeper : ℕ → Forest → Forest
deeper depth Nothing = Nothing
deeper depth (Then p within more) = if nat_lt depth p.node.depth then Then p within (deeper depth more) else Nothing

-- the trees that follow those
abbrev pub following : ℕ → Forest → Forest
following depth Nothing = Nothing
following depth (Then p within more) = if nat_lt depth p.node.depth then following depth more else Then p within more

-- the trees of parts in preorder, from the last to the first: a part takes in the deeper trees that follow it
abbrev pub forest : List Part → Forest
forest [] = Nothing
forest (p ∷ ps) = let more = forest ps in Then p (deeper p.node.depth more) (following p.node.depth more)

-- ---- what a leaf is

-- without a file name, and without the disposition of an attachment
abbrev pub is_inline : PartNode → Bool
is_inline n = length n.name == 0 && not n.attach

abbrev pub is_text : PartNode → Bool
is_text n = n.leaf && is_kind (codes "text") (codes "plain") n.kind && is_inline n

-- a text of any type
abbrev pub is_any_text : PartNode → Bool
is_any_text n = bytes_eq n.kind.top (codes "text") && is_inline n

-- whether a text that is shown is among some trees
abbrev pub shows_text : Forest → Bool
shows_text Nothing = false
shows_text (Then p within more) = is_text p.node || shows_text within || shows_text more

-- what is kept of a mail: parts that are shown as texts, and parts that are files
pub data Kept : Type 0 where
  Text : (part : Part) → Kept
  File : (part : Part) → Kept

-- each leaf is a text or a file
abbrev pub leaf_of : Part → Option Kept
leaf_of p = if not p.node.leaf then None else if is_text p.node then Some (Text p) else Some (File p)

-- beside an alternative that is chosen, texts of every type are dropped
abbrev pub leaf_beside : Part → Option Kept
leaf_beside p = if not p.node.leaf || is_any_text p.node then None else Some (File p)

-- ---- which alternative is chosen

abbrev pub is_alternative : Kind → Bool
is_alternative kind = is_kind (codes "multipart") (codes "alternative") kind

-- whether one of the parts in a part is chosen: they are alternatives, and one shows a text
abbrev pub is_choice : Part → Forest → Bool
is_choice p within = is_alternative p.node.kind && shows_text within

-- what is kept beside an alternative that is chosen
abbrev pub beside : Forest → List Kept
beside Nothing = []
beside (Then p within more) = cons_option (leaf_beside p) (beside within ++ beside more)

abbrev mutual
  -- what is kept of parts, each of which is kept whole
  pub kept : Forest → List Kept
  kept Nothing = []
  kept (Then p within more) = cons_option (leaf_of p) ((if is_choice p within then chosen within else kept within) ++ kept more)

  -- what is kept of alternatives: the first that shows a text is kept whole, and the others are beside it
  pub chosen : Forest → List Kept
  chosen Nothing = []
  chosen (Then p within more) =
      if is_text p.node || shows_text within
      then cons_option (leaf_of p) ((if is_choice p within then chosen within else kept within) ++ beside more)
      else cons_option (leaf_beside p) (beside within ++ chosen more)

-- what is kept of a mail
abbrev pub kept_of : List Part → List Kept
kept_of parts = kept (forest parts)

-- ---- the text

-- the content of a part as a text in its charset (RFC 2046, section 4.1.2)
abbrev pub decoded_text : Part → List ℕ
decoded_text p = to_text (charset_of (param p.node.kind (codes "charset"))) p.content

-- that text without soft line breaks (RFC 3676) and without a signature
abbrev pub text_in : Part → List ℕ
text_in p =
    let text = decoded_text p in
    user_text (if same_name (param p.node.kind (codes "format")) (codes "flowed")
    then unflow text (same_name (param p.node.kind (codes "delsp")) (codes "yes")) else text)

abbrev pub text_of : Kept → Option (List ℕ)
text_of (Text p) = Some (text_in p)
text_of (File p) = None

abbrev pub file_of : Kept → Option Part
file_of (Text p) = None
file_of (File p) = Some p

-- the text that a mail shows: its texts with an LF (10) between each two
abbrev pub shown : List Part → List ℕ
shown parts = join_with_byte 10 (filter_map text_of (kept_of parts))

-- the parts that are files
abbrev pub files : List Part → List Part
files parts = filter_map file_of (kept_of parts)
