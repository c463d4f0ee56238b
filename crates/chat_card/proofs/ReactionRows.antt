-- Worked rows of reactions, which compute.
use Rattle.std.proofs.Common.{◌≡◌, ℕ, Bool, true, false, List, [], ◌∷◌, ◌++◌, Option, Some, None, codes, refl}
use Rattle.std.specs.Prelude.{map, replicate}
use Rattle.std.specs.Str.{is_utf8, chars}
use Rattle.std.specs.Str.Lossy.{utf8_lossy, utf8_valid_len, utf8_error_len}
use Rattle.std.specs.Fmt.{digits}
use Rattle.std.specs.Fmt.Cut.{floor_char_boundary}
use Rattle.card_type.specs.declared.card.Attachment.{Attachment}
use Rattle.card_type.proofs.WorkedCards.{thumb}
use Rattle.chat_card.specs.Files.{attachment}
use Rattle.chat_card.specs.Parts.{Part}
use Rattle.chat_card.specs.Reactions.{one_line, reaction_in, read_parts}
use Rattle.chat_card.specs.Shown.{files, shown}
use Rattle.chat_card.specs.Texts.{edit_mark, prefix}
use Rattle.chat_card.proofs.ShownRows.{file, in_mail, multipart, plain}

-- what a mail says as a reaction, and the text and the files that it has beside
pub record Said : Type 0 where
  pub reaction : Option (List ℕ)
  pub text : List ℕ
  pub files : List Attachment

abbrev said_in : Bool → Option (List ℕ) → List Part → Said
said_in is_reply edit parts =
    let read = read_parts is_reply edit parts in
    record { reaction = reaction_in is_reply edit parts; text = shown read; files = map attachment (files read) }

-- in a mail that answers another
abbrev said : List ℕ → Said
said mail = said_in true None (in_mail mail)

abbrev row : Option (List ℕ) → List ℕ → List Attachment → Said
row reaction text files = record { reaction = reaction; text = text; files = files }

-- a part of these fields and this content
abbrev part : List ℕ → List ℕ → List ℕ
part fields content = fields ++ codes "Content-Disposition: reaction\n\n" ++ content ++ codes "\n"

-- a thumb
abbrev up : List ℕ
up = part (codes "Content-Type: text/plain; charset=utf-8\n") thumb

abbrev mixed : List (List ℕ) → List ℕ
mixed ps = multipart (codes "mixed") (codes "b") ps

abbrev image : List ℕ
image = codes "Content-Type: image/png\n\n123\n"

abbrev html : List ℕ
html = codes "Content-Type: text/html\n\n<p>\n"

abbrev png : Attachment
png = file (codes "image/png") [] 3

alone : said up
    ≡ row (Some thumb) [] []
unfolding utf8_lossy utf8_valid_len utf8_error_len is_utf8 chars lib.Utf8.encode digits
alone = refl

-- which takes an earlier one back
empty : said (part [] [])
    ≡ row (Some []) [] []
unfolding utf8_lossy utf8_valid_len utf8_error_len is_utf8 chars lib.Utf8.encode digits
empty = refl

no_reply : said_in false None (in_mail up)
    ≡ row None thumb []
unfolding utf8_lossy utf8_valid_len utf8_error_len is_utf8 chars lib.Utf8.encode digits
no_reply = refl

beside_a_file : said (mixed (up ∷ image ∷ []))
    ≡ row (Some thumb) [] (png ∷ [])
unfolding utf8_lossy utf8_valid_len utf8_error_len is_utf8 chars lib.Utf8.encode digits
beside_a_file = refl

-- a mail that says more is a message
beside_a_text : said (mixed (plain ∷ up ∷ []))
    ≡ row None (codes "Hi\n" ++ thumb) []
unfolding utf8_lossy utf8_valid_len utf8_error_len is_utf8 chars lib.Utf8.encode digits
beside_a_text = refl

beside_white_space : said (mixed (codes "\n \n\n" ∷ up ∷ []))
    ≡ row (Some thumb) (codes " ") []
unfolding utf8_lossy utf8_valid_len utf8_error_len is_utf8 chars lib.Utf8.encode digits
beside_white_space = refl

-- of two the second is a text
second : said (mixed (up ∷ up ∷ []))
    ≡ row None (thumb ++ 10 ∷ thumb) []
unfolding utf8_lossy utf8_valid_len utf8_error_len is_utf8 chars lib.Utf8.encode digits
second = refl

with_a_file_name : said (codes "Content-Disposition: reaction; filename=a\n\n" ++ codes "123\n")
    ≡ row None [] (file (codes "text/plain") (codes "a") 4 ∷ [])
unfolding utf8_lossy utf8_valid_len utf8_error_len is_utf8 chars lib.Utf8.encode digits
with_a_file_name = refl

of_another_type : said (part (codes "Content-Type: text/html\n") (codes "<p>"))
    ≡ row None [] (file (codes "text/html") [] 4 ∷ [])
unfolding utf8_lossy utf8_valid_len utf8_error_len is_utf8 chars lib.Utf8.encode digits
of_another_type = refl

of_another_disposition : said (codes "Content-Disposition: reactions\n\nHi\n")
    ≡ row None (codes "Hi") []
unfolding utf8_lossy utf8_valid_len utf8_error_len is_utf8 chars lib.Utf8.encode digits
of_another_disposition = refl

-- the alternative shows no text then, and the other one is a file
in_an_alternative : said (multipart (codes "alternative") (codes "b") (up ∷ html ∷ []))
    ≡ row (Some thumb) [] (file (codes "text/html") [] 3 ∷ [])
unfolding utf8_lossy utf8_valid_len utf8_error_len is_utf8 chars lib.Utf8.encode digits
in_an_alternative = refl

-- and the text of an alternative is another text
beside_alternatives : said (multipart (codes "alternative") (codes "b") (up ∷ plain ∷ html ∷ []))
    ≡ row None thumb []
unfolding utf8_lossy utf8_valid_len utf8_error_len is_utf8 chars lib.Utf8.encode digits
beside_alternatives = refl

-- an edit of a mark alone has no text
in_an_edit : said_in true (Some (codes "m1@x.org")) (in_mail (mixed ((codes "Content-Type: text/plain; charset=utf-8\n\n" ++ edit_mark ++ codes "\n") ∷ up ∷ [])))
    ≡ row (Some thumb) edit_mark []
unfolding utf8_lossy utf8_valid_len utf8_error_len is_utf8 chars lib.Utf8.encode digits
in_an_edit = refl

encoded : said (codes "Content-Type: text/plain; charset=iso-8859-1\nContent-Transfer-Encoding: base64\n" ++ part [] (codes "6SAg"))
    ≡ row (Some (195 ∷ 169 ∷ [])) [] []
unfolding utf8_lossy utf8_valid_len utf8_error_len is_utf8 chars lib.Utf8.encode digits
encoded = refl

white_space_joined : said (part [] (codes " \t a\r\n\r\nb  c\n "))
    ≡ row (Some (codes "a b c")) [] []
unfolding utf8_lossy utf8_valid_len utf8_error_len is_utf8 chars lib.Utf8.encode digits
white_space_joined = refl

-- no-break space, form feed and line separator are characters of a word
other_white_space : one_line (194 ∷ 160 ∷ 32 ∷ 12 ∷ 32 ∷ 226 ∷ 128 ∷ 168 ∷ [])
    ≡ 194 ∷ 160 ∷ 32 ∷ 12 ∷ 32 ∷ 226 ∷ 128 ∷ 168 ∷ []
unfolding utf8_lossy utf8_valid_len utf8_error_len is_utf8 chars lib.Utf8.encode digits
other_white_space = refl

as_long_as_may_be : said (part (codes "Content-Type: text/plain; charset=utf-8\n") (replicate 253 97 ++ 195 ∷ 169 ∷ []))
    ≡ row (Some (replicate 253 97 ++ 195 ∷ 169 ∷ [])) [] []
unfolding floor_char_boundary utf8_lossy utf8_valid_len utf8_error_len is_utf8 chars lib.Utf8.encode digits
as_long_as_may_be = refl

cut_between_characters : said (part (codes "Content-Type: text/plain; charset=utf-8\n") (replicate 254 97 ++ 195 ∷ 169 ∷ []))
    ≡ row (Some (replicate 254 97)) [] []
unfolding floor_char_boundary utf8_lossy utf8_valid_len utf8_error_len is_utf8 chars lib.Utf8.encode digits
cut_between_characters = refl

-- what is cut may end in a space
cut_after_a_space : prefix 255 (replicate 254 97 ++ 32 ∷ 98 ∷ [])
    ≡ replicate 254 97 ++ 32 ∷ []
unfolding floor_char_boundary utf8_lossy utf8_valid_len utf8_error_len is_utf8 chars lib.Utf8.encode digits
cut_after_a_space = refl
