-- Worked rows of the trees of parts, which compute.
use Rattle.std.proofs.Common.{◌≡◌, ℕ, Bool, true, false, List, [], ◌∷◌, ◌++◌, codes, refl, drop, map}
use Rattle.std.specs.Str.{is_utf8, chars}
use Rattle.std.specs.Str.Lossy.{utf8_lossy, utf8_valid_len, utf8_error_len}
use Rattle.std.specs.Fmt.{digits}
use Rattle.std.specs.List.{concat}
use Rattle.mail_headers.specs.Headers.{header_of}
use Rattle.transfer_code.specs.Encodings.{decode_body}
use Rattle.mime_parts.specs.declared.part.PartNode.{PartNode}
use Rattle.mime_parts.specs.Multiparts.{bytes_at, spans}
use Rattle.mime_parts.specs.Trees.{tree}

-- the contents of the parts of a multipart
abbrev texts : List ℕ → List ℕ → List (List ℕ)
texts boundary bytes = map (bytes_at bytes) (spans boundary 0 bytes)

-- ---- parts of a multipart

one_part : texts (codes "b") (codes "--b\nx\n--b--\n") ≡ codes "x" ∷ []
one_part = refl

preamble_and_epilogue : texts (codes "b") (codes "pre\n--b\nx\n--b\ny\n--b--\npost\n--b\nz") ≡ codes "x" ∷ codes "y" ∷ []
preamble_and_epilogue = refl

-- only one line end belongs to the delimiter line after it
line_ends : texts (codes "b") (codes "--b\n\nx\n\n--b--") ≡ codes "\nx\n" ∷ []
line_ends = refl

cr_lf : texts (codes "b") (codes "--b\r\nx\r\n--b--\r\n") ≡ codes "x" ∷ []
cr_lf = refl

-- RFC 2046, section 5.1.1, allows white space after a boundary
white_space : texts (codes "b") (codes "--b \t\nx\n--b-- \n") ≡ codes "x" ∷ []
white_space = refl

empty_parts : texts (codes "b") (codes "--b\n--b\n\n--b--") ≡ [] ∷ [] ∷ []
empty_parts = refl

-- the last part runs to the end, and keeps its line end
not_closed : texts (codes "b") (codes "--b\nx\n--b\ny\n") ≡ codes "x" ∷ codes "y\n" ∷ []
not_closed = refl

no_delimiter : texts (codes "b") (codes "x\n -b\n--c\n") ≡ []
no_delimiter = refl

only_closing : texts (codes "b") (codes "x\n--b--\n--b\ny\n") ≡ []
only_closing = refl

-- a boundary that another one begins with
prefix_of_a_boundary : texts (codes "b") (codes "--bb\n--b\nx\n--bb\n--b--") ≡ codes "x\n--bb" ∷ []
prefix_of_a_boundary = refl

boundary_with_dashes : texts (codes "b--") (codes "--b--\nx\n--b----") ≡ codes "x" ∷ []
boundary_with_dashes = refl

-- a last line keeps its CR, and so it is no delimiter line
cr_at_the_end : texts (codes "b") (codes "--b\nx\n--b--\r") ≡ codes "x\n--b--\r" ∷ []
cr_at_the_end = refl

longer_than_any_line : texts (codes "a boundary that is longer") (codes "--a\nx\n") ≡ []
longer_than_any_line = refl

empty_content : texts (codes "b") [] ≡ []
empty_content = refl

-- ---- trees

-- what a tree says of a node in few words: its depth, its type, its name, its content, and whether it is a leaf
pub record Seen : Type 0 where
  pub depth : ℕ
  pub kind : List ℕ
  pub name : List ℕ
  pub content : List ℕ
  pub leaf : Bool

abbrev seen : List ℕ → PartNode → Seen
seen body n = record {
  depth = n.depth;
  kind = n.kind.top ++ codes "/" ++ n.kind.sub;
  name = n.name;
  content = bytes_at body (record { start = n.start; end = n.end });
  leaf = n.leaf;
}

abbrev seen_in : List ℕ → List Seen
seen_in mail =
    let head = header_of mail in
    let body = drop head.body_at mail in
    map (seen body) (tree head body)

abbrev row : ℕ → List ℕ → List ℕ → List ℕ → Bool → Seen
row depth kind name content leaf = record { depth = depth; kind = kind; name = name; content = content; leaf = leaf }

plain_mail : seen_in (codes "A: b\n\nHi\n") ≡ row 0 (codes "text/plain") [] (codes "Hi\n") true ∷ []
unfolding utf8_lossy utf8_valid_len utf8_error_len is_utf8 chars lib.Utf8.encode digits
plain_mail = refl

empty_mail : seen_in [] ≡ row 0 (codes "text/plain") [] [] true ∷ []
unfolding utf8_lossy utf8_valid_len utf8_error_len is_utf8 chars lib.Utf8.encode digits
empty_mail = refl

two_parts : seen_in (codes "Content-Type: multipart/mixed; boundary=b\n\n--b\n\nx\n--b\nContent-Type: a/b; name=n\n\ny\n--b--\n")
    ≡ row 0 (codes "multipart/mixed") [] (codes "--b\n\nx\n--b\nContent-Type: a/b; name=n\n\ny\n--b--\n") false
    ∷ row 1 (codes "text/plain") [] (codes "x") true
    ∷ row 1 (codes "a/b") (codes "n") (codes "y") true ∷ []
unfolding utf8_lossy utf8_valid_len utf8_error_len is_utf8 chars lib.Utf8.encode digits
two_parts = refl

-- RFC 2046, section 5.1.5
digest : seen_in (codes "Content-Type: multipart/digest; boundary=b\n\n--b\n\nx\n--b\nContent-Type: c; d=e\n\ny\n--b\nContent-Type: text/plain\n\nz\n--b--\n")
    ≡ row 0 (codes "multipart/digest") [] (codes "--b\n\nx\n--b\nContent-Type: c; d=e\n\ny\n--b\nContent-Type: text/plain\n\nz\n--b--\n") false
    ∷ row 1 (codes "message/rfc822") [] (codes "x") true
    ∷ row 1 (codes "message/rfc822") [] (codes "y") true
    ∷ row 1 (codes "text/plain") [] (codes "z") true ∷ []
unfolding utf8_lossy utf8_valid_len utf8_error_len is_utf8 chars lib.Utf8.encode digits
digest = refl

encrypted : seen_in (codes "Content-Type: multipart/encrypted; boundary=b\n\n--b\n\nx\n--b--\n")
    ≡ row 0 (codes "multipart/encrypted") [] (codes "--b\n\nx\n--b--\n") true ∷ []
unfolding utf8_lossy utf8_valid_len utf8_error_len is_utf8 chars lib.Utf8.encode digits
encrypted = refl

-- a boundary in the header of a part that is no multipart opens nothing
no_multipart : seen_in (codes "Content-Type: text/plain; boundary=b\n\n--b\n\nx\n--b--\n")
    ≡ row 0 (codes "text/plain") [] (codes "--b\n\nx\n--b--\n") true ∷ []
unfolding utf8_lossy utf8_valid_len utf8_error_len is_utf8 chars lib.Utf8.encode digits
no_multipart = refl

no_boundary : seen_in (codes "Content-Type: multipart/mixed; boundary=\"\"\n\n--\n\nx\n----\n")
    ≡ row 0 (codes "multipart/mixed") [] (codes "--\n\nx\n----\n") true ∷ []
unfolding utf8_lossy utf8_valid_len utf8_error_len is_utf8 chars lib.Utf8.encode digits
no_boundary = refl

-- one boundary is a prefix of the other
nested : seen_in (codes "Content-Type: multipart/a; boundary=b\n\n--b\nContent-Type: multipart/c; boundary=bb\n\n--bb\n\nx\n--bb--\n--b\n\ny\n--b--\n")
    ≡ row 0 (codes "multipart/a") [] (codes "--b\nContent-Type: multipart/c; boundary=bb\n\n--bb\n\nx\n--bb--\n--b\n\ny\n--b--\n") false
    ∷ row 1 (codes "multipart/c") [] (codes "--bb\n\nx\n--bb--") false
    ∷ row 2 (codes "text/plain") [] (codes "x") true
    ∷ row 1 (codes "text/plain") [] (codes "y") true ∷ []
unfolding utf8_lossy utf8_valid_len utf8_error_len is_utf8 chars lib.Utf8.encode digits
nested = refl

-- what a mail with an alternative and an attachment has
abbrev plans : List ℕ
plans = concat (
    codes "From: Ann <ann@x.org>\nTo: me@x.org, Bob <bob@x.org>\nDate: Thu, 02 May 2024 08:00:00 +0000\nMessage-ID: <h1@x.org>\nSubject: Plans\nMIME-Version: 1.0\n"
    ∷ codes "Content-Type: multipart/mixed; boundary=\"o\"\n\n--o\nContent-Type: multipart/alternative; boundary=\"i\"\n\n"
    ∷ codes "--i\nContent-Type: text/plain; charset=utf-8\n\nSee the file.\n--i\nContent-Type: text/html; charset=utf-8\n\n<p>See the file.</p>\n--i--\n"
    ∷ codes "--o\nContent-Type: application/pdf\nContent-Disposition: attachment; filename=\"plan.pdf\"\nContent-Transfer-Encoding: base64\n\nJVBERi0=\n--o--\n"
    ∷ [])

abbrev few : Seen → ℕ × List ℕ × List ℕ × Bool
few s = (s.depth, s.kind, s.name, s.leaf)

alternative_and_attachment : map few (seen_in plans)
    ≡ (0, codes "multipart/mixed", [], false)
    ∷ (1, codes "multipart/alternative", [], false)
    ∷ (2, codes "text/plain", [], true)
    ∷ (2, codes "text/html", [], true)
    ∷ (1, codes "application/pdf", codes "plan.pdf", true) ∷ []
unfolding utf8_lossy utf8_valid_len utf8_error_len is_utf8 chars lib.Utf8.encode digits
alternative_and_attachment = refl

-- each content, decoded, of nodes in a body
abbrev decoded : List ℕ → List PartNode → List (List ℕ)
decoded body nodes = map (λ n. decode_body n.encoding (bytes_at body (record { start = n.start; end = n.end }))) nodes

attachment_decoded : drop 4 (decoded (drop (header_of plans).body_at plans) (tree (header_of plans) (drop (header_of plans).body_at plans))) ≡ codes "%PDF-" ∷ []
unfolding utf8_lossy utf8_valid_len utf8_error_len is_utf8 chars lib.Utf8.encode digits
attachment_decoded = refl
