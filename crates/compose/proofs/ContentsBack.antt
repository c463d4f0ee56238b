-- What a mail of one text shows, or says as a reaction.
use Rattle.std.proofs.Common.{◌≡◌, ℕ, ◌≤◌, Bool, true, false, List, [], ◌∷◌, length, map, Option, Some, None, refl, ap, ◌∙◌}
use Rattle.std.specs.Prelude.{◌&&◌, codes, find, if◌then◌else◌, is_some, not, option_map}
use Rattle.std.specs.Str.{IsUtf8}
use Rattle.std.specs.Str.Lossy.{utf8_lossy}
use Rattle.std.proofs.lemmas.Bool.{le-leb}
use Rattle.std.proofs.lemmas.Str.{utf8_lossy-IsUtf8}
use Rattle.card_type.specs.Kinds.{has_some}
use Rattle.flowed_text.specs.Flowed.{user_text}
use Rattle.mail_headers.specs.Headers.{Head, field}
use Rattle.mime_fields.specs.Kinds.{disposition}
use Rattle.transfer_code.specs.Base64.{decode_base64}
use Rattle.chat_card.specs.Contents.{contents_in, contents_of, contents_with}
use Rattle.chat_card.specs.Parts.{Part, part}
use Rattle.chat_card.specs.Reactions.{is_reaction, one_line, other_parts, reaction_text}
use Rattle.chat_card.specs.Receipts.{receipt_of}
use Rattle.chat_card.specs.Shown.{shown}
use Rattle.chat_card.specs.Texts.{card_text, prefix}
use Rattle.chat_card.specs.declared.contents.Contents.{Contents}
use Rattle.compose.specs.Mails.{plain_type}
use Rattle.compose.specs.Written.{body_text}
use Rattle.compose.proofs.Base64Back.{decode-lines}
use Rattle.compose.proofs.Pieces.{text_bytes}
use Rattle.compose.proofs.TreeBack.{disposed, text_node, tree_text, whole_body}

-- parts of which none is a reaction are all shown
pub read_plainly : (is_reply : Bool) (edit : Option (List ℕ)) (parts : List Part) → find is_reaction parts ≡ None
    → contents_in is_reply edit parts ≡ contents_with (receipt_of parts) None parts
read_plainly is_reply edit parts none =
    ap (λ found. contents_with (receipt_of parts) (option_map reaction_text found) (if is_some found then other_parts parts else parts))
    (by (is_reply && not (has_some (card_text edit (shown (other_parts parts))).text)))
  where
    by : (b : Bool) → (if b then find is_reaction parts else None) ≡ None
    by true = none
    by false = refl

-- the part that it is
abbrev leaf : Bool → List ℕ → List ℕ → Part
leaf reaction body text = record { node = text_node reaction body; content = text }

-- what is read of it
contents_read : (is_reply : Bool) (edit : Option (List ℕ)) (reaction : Bool) (head : Head) (text : List ℕ) → field head (codes "Content-Type") ≡ plain_type
    → field head (codes "Content-Transfer-Encoding") ≡ codes "base64" → disposition (field head (codes "Content-Disposition")) ≡ disposed reaction → IsUtf8 text
    → contents_of is_reply edit head (body_text text) ≡ contents_in is_reply edit (leaf reaction (body_text text) text ∷ [])
contents_read is_reply edit reaction head text type coding told u =
    let body = body_text text in
    ap (λ nodes. contents_in is_reply edit (map (part body) nodes)) (tree_text head body reaction type coding told)
    ∙ ap (λ bytes. contents_in is_reply edit (leaf reaction body (decode_base64 bytes) ∷ [])) (whole_body body)
    ∙ ap (λ (t : List ℕ). contents_in is_reply edit (leaf reaction body t ∷ [])) (decode-lines text (text_bytes text u))

-- ---- a text that is shown

abbrev pub shows : List ℕ → Contents
shows text = record { text = text; attachments = []; receipt = None; app = false; updates = []; reaction = None }

contents_leaf : (body text : List ℕ) → contents_with (receipt_of (leaf false body text ∷ [])) None (leaf false body text ∷ []) ≡ shows (user_text (utf8_lossy text))
contents_leaf body text = refl

pub contents_text : (is_reply : Bool) (edit : Option (List ℕ)) (head : Head) (text : List ℕ) → field head (codes "Content-Type") ≡ plain_type
    → field head (codes "Content-Transfer-Encoding") ≡ codes "base64" → disposition (field head (codes "Content-Disposition")) ≡ disposed false
    → IsUtf8 text → user_text text ≡ text → contents_of is_reply edit head (body_text text) ≡ shows text
contents_text is_reply edit head text type coding told u own =
    let body = body_text text in
    contents_read is_reply edit false head text type coding told u
    ∙ read_plainly is_reply edit (leaf false body text ∷ []) refl
    ∙ contents_leaf body text
    ∙ ap (λ t. shows (user_text t)) (utf8_lossy-IsUtf8 text u)
    ∙ ap (λ (t : List ℕ). shows t) own

-- ---- a reaction

abbrev pub says : List ℕ → Contents
says text = record { text = []; attachments = []; receipt = None; app = false; updates = []; reaction = Some text }

reaction_leaf : (body text : List ℕ) → contents_in true None (leaf true body text ∷ []) ≡ says (prefix 255 (one_line (utf8_lossy text)))
reaction_leaf body text = refl

whole_prefix : (text : List ℕ) → length text ≤ 255 → prefix 255 text ≡ text
whole_prefix text le = rw (le-leb (length text) 255 le) refl

pub contents_reaction : (head : Head) (text : List ℕ) → field head (codes "Content-Type") ≡ plain_type → field head (codes "Content-Transfer-Encoding") ≡ codes "base64"
    → disposition (field head (codes "Content-Disposition")) ≡ disposed true → IsUtf8 text → one_line text ≡ text → length text ≤ 255
    → contents_of true None head (body_text text) ≡ says text
contents_reaction head text type coding told u line le =
    contents_read true None true head text type coding told u
    ∙ reaction_leaf (body_text text) text
    ∙ ap (λ t. says (prefix 255 (one_line t))) (utf8_lossy-IsUtf8 text u)
    ∙ ap (λ t. says (prefix 255 t)) line
    ∙ ap (λ (t : List ℕ). says t) (whole_prefix text le)
