-- Worked rows of the texts and files of mails, which compute.
use Rattle.std.proofs.Common.{◌≡◌, ℕ, List, [], ◌∷◌, ◌++◌, codes, refl, drop, map}
use Rattle.std.specs.Str.{is_utf8, chars}
use Rattle.std.specs.Str.Lossy.{utf8_lossy, utf8_valid_len, utf8_error_len}
use Rattle.std.specs.Fmt.{digits}
use Rattle.std.specs.List.{concat}
use Rattle.card_type.specs.declared.card.Attachment.{Attachment}
use Rattle.mail_headers.specs.Headers.{header_of}
use Rattle.chat_card.specs.Files.{attachment}
use Rattle.chat_card.specs.Parts.{Part, parts_of}
use Rattle.chat_card.specs.Shown.{files, shown}

abbrev pub in_mail : List ℕ → List Part
in_mail mail = let head = header_of mail in parts_of head (drop head.body_at mail)

-- the text and the files of a mail
pub record Seen : Type 0 where
  pub text : List ℕ
  pub files : List Attachment

abbrev seen : List ℕ → Seen
seen mail = let parts = in_mail mail in record { text = shown parts; files = map attachment (files parts) }

abbrev pub file : List ℕ → List ℕ → ℕ → Attachment
file kind name size = record { kind = kind; name = name; size = size }

abbrev row : List ℕ → List Attachment → Seen
row text files = record { text = text; files = files }

-- parts between the delimiter lines of a boundary
abbrev pub delimited : List ℕ → List (List ℕ) → List ℕ
delimited boundary [] = codes "--" ++ (boundary ++ codes "--\n")
delimited boundary (p ∷ ps) = codes "--" ++ (boundary ++ 10 ∷ (p ++ delimited boundary ps))

-- a multipart of a subtype and a boundary
abbrev pub multipart : List ℕ → List ℕ → List (List ℕ) → List ℕ
multipart sub boundary ps = codes "Content-Type: multipart/" ++ (sub ++ (codes "; boundary=" ++ (boundary ++ 10 ∷ 10 ∷ delimited boundary ps)))

abbrev mixed : List (List ℕ) → List ℕ
mixed ps = multipart (codes "mixed") (codes "b") ps

abbrev alternative : List (List ℕ) → List ℕ
alternative ps = multipart (codes "alternative") (codes "b") ps

abbrev pub plain : List ℕ
plain = codes "\nHi\n"

abbrev html : List ℕ
html = codes "Content-Type: text/html\n\n<p>\n"

abbrev image : List ℕ
image = codes "Content-Type: image/png\n\n123\n"

-- ---- one part

plain_mail : seen (codes "A: b\n\nHi\n-- \nBob\n") ≡ row (codes "Hi") []
unfolding utf8_lossy utf8_valid_len utf8_error_len is_utf8 chars lib.Utf8.encode digits
plain_mail = refl

empty_mail : seen [] ≡ row [] []
unfolding utf8_lossy utf8_valid_len utf8_error_len is_utf8 chars lib.Utf8.encode digits
empty_mail = refl

html_mail : seen html ≡ row [] (file (codes "text/html") [] 4 ∷ [])
unfolding utf8_lossy utf8_valid_len utf8_error_len is_utf8 chars lib.Utf8.encode digits
html_mail = refl

-- a text with a file name is a file
named : seen (codes "Content-Type: text/plain; name=a.txt\n\nHi\n") ≡ row [] (file (codes "text/plain") (codes "a.txt") 3 ∷ [])
unfolding utf8_lossy utf8_valid_len utf8_error_len is_utf8 chars lib.Utf8.encode digits
named = refl

an_attachment_by_its_disposition : seen (codes "Content-Disposition: attachment\n\nHi\n") ≡ row [] (file (codes "text/plain") [] 3 ∷ [])
unfolding utf8_lossy utf8_valid_len utf8_error_len is_utf8 chars lib.Utf8.encode digits
an_attachment_by_its_disposition = refl

flowed : seen (codes "Content-Type: text/plain; Format=Flowed; delsp=YES\n\na \nb\n") ≡ row (codes "ab") []
unfolding utf8_lossy utf8_valid_len utf8_error_len is_utf8 chars lib.Utf8.encode digits
flowed = refl

-- lines stay where no format is given
fixed : seen (codes "Content-Type: text/plain; delsp=yes\n\na \nb\n") ≡ row (codes "a \nb") []
unfolding utf8_lossy utf8_valid_len utf8_error_len is_utf8 chars lib.Utf8.encode digits
fixed = refl

in_latin1 : seen (codes "Content-Type: text/plain; charset=latin1\nContent-Transfer-Encoding: quoted-printable\n\n=E9\n") ≡ row (195 ∷ 169 ∷ []) []
unfolding utf8_lossy utf8_valid_len utf8_error_len is_utf8 chars lib.Utf8.encode digits
in_latin1 = refl

-- ---- parts side by side

two_texts : seen (mixed (plain ∷ image ∷ codes "\nthere\n" ∷ [])) ≡ row (codes "Hi\nthere") (file (codes "image/png") [] 3 ∷ [])
unfolding utf8_lossy utf8_valid_len utf8_error_len is_utf8 chars lib.Utf8.encode digits
two_texts = refl

html_after_plain : seen (alternative (plain ∷ html ∷ [])) ≡ row (codes "Hi") []
unfolding utf8_lossy utf8_valid_len utf8_error_len is_utf8 chars lib.Utf8.encode digits
html_after_plain = refl

html_before_plain : seen (alternative (html ∷ plain ∷ [])) ≡ row (codes "Hi") []
unfolding utf8_lossy utf8_valid_len utf8_error_len is_utf8 chars lib.Utf8.encode digits
html_before_plain = refl

-- of two alternatives that show a text the first is chosen
two_alternatives : seen (alternative (codes "\nA\n" ∷ codes "\nB\n" ∷ image ∷ [])) ≡ row (codes "A") (file (codes "image/png") [] 3 ∷ [])
unfolding utf8_lossy utf8_valid_len utf8_error_len is_utf8 chars lib.Utf8.encode digits
two_alternatives = refl

-- where none shows a text, none is dropped
no_text : seen (alternative (html ∷ image ∷ [])) ≡ row [] (file (codes "text/html") [] 3 ∷ file (codes "image/png") [] 3 ∷ [])
unfolding utf8_lossy utf8_valid_len utf8_error_len is_utf8 chars lib.Utf8.encode digits
no_text = refl

named_beside : seen (alternative (plain ∷ codes "Content-Type: text/calendar; name=c\n\nX\n" ∷ [])) ≡ row (codes "Hi") (file (codes "text/calendar") (codes "c") 1 ∷ [])
unfolding utf8_lossy utf8_valid_len utf8_error_len is_utf8 chars lib.Utf8.encode digits
named_beside = refl

-- ---- parts in parts

file_in_another_alternative : seen (alternative (plain ∷ multipart (codes "related") (codes "c") (html ∷ image ∷ []) ∷ [])) ≡ row (codes "Hi") (file (codes "image/png") [] 3 ∷ [])
unfolding utf8_lossy utf8_valid_len utf8_error_len is_utf8 chars lib.Utf8.encode digits
file_in_another_alternative = refl

text_in_an_alternative : seen (alternative (html ∷ multipart (codes "related") (codes "c") (plain ∷ html ∷ []) ∷ codes "\nB\n" ∷ []))
    ≡ row (codes "Hi") (file (codes "text/html") [] 3 ∷ [])
unfolding utf8_lossy utf8_valid_len utf8_error_len is_utf8 chars lib.Utf8.encode digits
text_in_an_alternative = refl

alternatives_in_an_alternative : seen (alternative (multipart (codes "alternative") (codes "c") (html ∷ plain ∷ []) ∷ codes "\nB\n" ∷ [])) ≡ row (codes "Hi") []
unfolding utf8_lossy utf8_valid_len utf8_error_len is_utf8 chars lib.Utf8.encode digits
alternatives_in_an_alternative = refl

-- ---- whole mails

-- a multipart that is not opened is a file, and its size is that of its undecoded content
encrypted : seen (codes "Subject: ...\nContent-Type: multipart/encrypted; boundary=\"e\"\n\n--e\nContent-Type: application/pgp-encrypted\n\nVersion: 1\n--e--\n")
    ≡ row [] (file (codes "multipart/encrypted") [] 62 ∷ [])
unfolding utf8_lossy utf8_valid_len utf8_error_len is_utf8 chars lib.Utf8.encode digits
encrypted = refl

-- an alternative and a file
plans : seen (concat (
    codes "From: Ann <ann@x.org>\nSubject: Plans\nMIME-Version: 1.0\nContent-Type: multipart/mixed; boundary=\"o\"\n\n--o\n"
    ∷ codes "Content-Type: multipart/alternative; boundary=\"i\"\n\n--i\nContent-Type: text/plain; charset=utf-8\n\nSee the file.\n"
    ∷ codes "--i\nContent-Type: text/html; charset=utf-8\n\n<p>See the file.</p>\n--i--\n--o\nContent-Type: application/pdf\n"
    ∷ codes "Content-Disposition: attachment; filename=\"plan.pdf\"\nContent-Transfer-Encoding: base64\n\nJVBERi0=\n--o--\n" ∷ []))
    ≡ row (codes "See the file.") (file (codes "application/pdf") (codes "plan.pdf") 5 ∷ [])
unfolding utf8_lossy utf8_valid_len utf8_error_len is_utf8 chars lib.Utf8.encode digits
plans = refl
