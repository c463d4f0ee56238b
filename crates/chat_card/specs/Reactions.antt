-- The reaction rule: what a mail says of the mail that it answers (RFC 9078, section 2).
use Rattle.std.specs.Prelude.{ℕ, Bool, not, ◌&&◌, ◌==◌, if◌then◌else◌, List, ◌++◌, length, filter, find, codes, Option, None, is_some, option_map}
use Rattle.std.specs.List.{after_first, before_first, join_by, slice_split}
use Rattle.std.specs.Str.{chars, encode_utf8_all}
use Rattle.card_type.specs.Kinds.{has_some}
use Rattle.mime_parts.specs.declared.part.PartNode.{PartNode}
use Rattle.mime_parts.specs.Trees.{is_kind}
use Rattle.chat_card.specs.Parts.{Part}
use Rattle.chat_card.specs.Shown.{decoded_text, shown}
use Rattle.chat_card.specs.Texts.{card_text, is_space, prefix}

-- a text whose disposition is that of a reaction, without a file name
abbrev pub is_reaction_node : PartNode → Bool
is_reaction_node n = n.leaf && is_kind (codes "text") (codes "plain") n.kind && length n.name == 0 && n.reaction

abbrev pub is_reaction : Part → Bool
is_reaction p = is_reaction_node p.node

-- the parts without the first of these: it has no parts, so the trees of the others are as they were
abbrev pub other_parts : List Part → List Part
other_parts parts = before_first is_reaction parts ++ after_first is_reaction parts

-- The part that is the reaction of a mail: the first of these, where the mail answers another, and where the others show
-- no text. An edit shows none where it has its mark alone.
abbrev pub reaction_part : (is_reply : Bool) (edit : Option (List ℕ)) → List Part → Option Part
reaction_part is_reply edit parts =
    if is_reply && not (has_some (card_text edit (shown (other_parts parts))).text) then find is_reaction parts else None

-- the parts that are shown and kept as files
abbrev pub read_parts : (is_reply : Bool) (edit : Option (List ℕ)) → List Part → List Part
read_parts is_reply edit parts = if is_some (reaction_part is_reply edit parts) then other_parts parts else parts

-- ---- what it says

-- what is between spaces, tabs, CR and LF, and is not empty
abbrev pub words : List ℕ → List (List ℕ)
words cs = filter has_some (slice_split is_space cs)

-- the words of a text with one space between each two
abbrev pub one_line : List ℕ → List ℕ
one_line text = encode_utf8_all (join_by (λ word. word) (codes " ") (words (chars text)))

-- the words of the part, as far as 255 bytes have room for them
abbrev pub reaction_text : Part → List ℕ
reaction_text p = prefix 255 (one_line (decoded_text p))

-- what a mail of these parts says as a reaction, if it is one: nothing, where it takes an earlier one back
abbrev pub reaction_in : (is_reply : Bool) (edit : Option (List ℕ)) → List Part → Option (List ℕ)
reaction_in is_reply edit parts = option_map reaction_text (reaction_part is_reply edit parts)
