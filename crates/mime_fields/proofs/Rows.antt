-- Worked rows of the definitions, which compute.
use Rattle.std.proofs.Common.{◌≡◌, ℕ, true, false, List, [], ◌∷◌, ◌++◌, codes, Some, None, refl}
use Rattle.std.specs.Str.{is_utf8, chars}
use Rattle.std.specs.Str.Lossy.{utf8_lossy, utf8_valid_len, utf8_error_len}
use Rattle.std.specs.Fmt.{digits}
use Rattle.percent_encoding.specs.Percent.{percent_decode}
use Rattle.mime_fields.specs.declared.param.Param.{Param}
use Rattle.mime_fields.specs.declared.disposition.Disposition.{Disposition}
use Rattle.mime_fields.specs.Segments.{segments}
use Rattle.mime_fields.specs.Kinds.{Kind, content_type, disposition, param_of}

abbrev param : List ℕ → List ℕ → Param
param name value = record { name = name; value = value }

abbrev kind : List ℕ → List ℕ → List Param → Kind
kind top sub params = record { top = top; sub = sub; params = params }

-- an attachment of a file name
abbrev file : List ℕ → Disposition
file name = record { attach = true; reaction = false; name = name }

abbrev inline : List ℕ → Disposition
inline name = record { attach = false; reaction = false; name = name }

abbrev reaction : List ℕ → Disposition
reaction name = record { attach = false; reaction = true; name = name }

-- ---- segments

cut_at_semicolons : segments (codes "a; b;;") ≡ codes "a" ∷ codes " b" ∷ [] ∷ [] ∷ []
cut_at_semicolons = refl

semicolon_in_quotes : segments (codes "a;b=\"c;\\\";d\";e") ≡ codes "a" ∷ codes "b=\"c;\\\";d\"" ∷ codes "e" ∷ []
semicolon_in_quotes = refl

-- a backslash outside a quoted string begins no quoted-pair
escape_outside_quotes : segments (codes "\\\";a\";b") ≡ codes "\\\";a\"" ∷ codes "b" ∷ []
escape_outside_quotes = refl

quotes_not_closed : segments (codes "a=\"b;c") ≡ codes "a=\"b;c" ∷ []
quotes_not_closed = refl

comments_protect_nothing : segments (codes "a (b;c)") ≡ codes "a (b" ∷ codes "c)" ∷ []
comments_protect_nothing = refl

-- ---- types

no_type : content_type (codes "broken") ≡ kind (codes "text") (codes "plain") []
unfolding utf8_lossy utf8_valid_len utf8_error_len is_utf8 chars lib.Utf8.encode digits percent_decode
no_type = refl

no_body : content_type [] ≡ kind (codes "text") (codes "plain") []
unfolding utf8_lossy utf8_valid_len utf8_error_len is_utf8 chars lib.Utf8.encode digits percent_decode
no_body = refl

letters_of_a_type : content_type (codes "Text/HTML; Charset=UTF-8") ≡ kind (codes "text") (codes "html") (param (codes "charset") (codes "UTF-8") ∷ [])
unfolding utf8_lossy utf8_valid_len utf8_error_len is_utf8 chars lib.Utf8.encode digits percent_decode
letters_of_a_type = refl

comment_after_a_type : content_type (codes "text/plain(c) d; a=b") ≡ kind (codes "text") (codes "plain") (param (codes "a") (codes "b") ∷ [])
unfolding utf8_lossy utf8_valid_len utf8_error_len is_utf8 chars lib.Utf8.encode digits percent_decode
comment_after_a_type = refl

three_sides : content_type (codes "a/b/c; d=e") ≡ kind (codes "text") (codes "plain") (param (codes "d") (codes "e") ∷ [])
unfolding utf8_lossy utf8_valid_len utf8_error_len is_utf8 chars lib.Utf8.encode digits percent_decode
three_sides = refl

empty_side : content_type (codes "/b;a=b") ≡ kind (codes "text") (codes "plain") (param (codes "a") (codes "b") ∷ [])
unfolding utf8_lossy utf8_valid_len utf8_error_len is_utf8 chars lib.Utf8.encode digits percent_decode
empty_side = refl

other_empty_side : content_type (codes "a/") ≡ kind (codes "text") (codes "plain") []
unfolding utf8_lossy utf8_valid_len utf8_error_len is_utf8 chars lib.Utf8.encode digits percent_decode
other_empty_side = refl

white_space_before_a_type : content_type (codes " a/b") ≡ kind (codes "text") (codes "plain") []
unfolding utf8_lossy utf8_valid_len utf8_error_len is_utf8 chars lib.Utf8.encode digits percent_decode
white_space_before_a_type = refl

white_space_in_a_type : content_type (codes "a /b") ≡ kind (codes "text") (codes "plain") []
unfolding utf8_lossy utf8_valid_len utf8_error_len is_utf8 chars lib.Utf8.encode digits percent_decode
white_space_in_a_type = refl

type_outside_ascii : content_type (codes "a/b" ++ 233 ∷ []) ≡ kind (codes "text") (codes "plain") []
unfolding utf8_lossy utf8_valid_len utf8_error_len is_utf8 chars lib.Utf8.encode digits percent_decode
type_outside_ascii = refl

-- ---- parameters

-- the examples of RFC 2045, section 5.1
rfc_2045_comment : content_type (codes "text/plain; charset=us-ascii (Plain text)") ≡ kind (codes "text") (codes "plain") (param (codes "charset") (codes "us-ascii") ∷ [])
unfolding utf8_lossy utf8_valid_len utf8_error_len is_utf8 chars lib.Utf8.encode digits percent_decode
rfc_2045_comment = refl

rfc_2045_quoted : content_type (codes "text/plain; charset=\"us-ascii\"") ≡ kind (codes "text") (codes "plain") (param (codes "charset") (codes "us-ascii") ∷ [])
unfolding utf8_lossy utf8_valid_len utf8_error_len is_utf8 chars lib.Utf8.encode digits percent_decode
rfc_2045_quoted = refl

white_space_round_both : content_type (codes "a/b; \tc \t= d e\t; f=\" g \"") ≡ kind (codes "a") (codes "b") (param (codes "c") (codes "d e") ∷ param (codes "f") (codes " g ") ∷ [])
unfolding utf8_lossy utf8_valid_len utf8_error_len is_utf8 chars lib.Utf8.encode digits percent_decode
white_space_round_both = refl

first_of_equal_names : content_type (codes "a/b; c=d; C=e") ≡ kind (codes "a") (codes "b") (param (codes "c") (codes "d") ∷ [])
unfolding utf8_lossy utf8_valid_len utf8_error_len is_utf8 chars lib.Utf8.encode digits percent_decode
first_of_equal_names = refl

no_equals_sign : content_type (codes "a/b; c; d=e") ≡ kind (codes "a") (codes "b") (param (codes "d") (codes "e") ∷ [])
unfolding utf8_lossy utf8_valid_len utf8_error_len is_utf8 chars lib.Utf8.encode digits percent_decode
no_equals_sign = refl

equals_sign_in_the_value : content_type (codes "a/b; c=d=e") ≡ kind (codes "a") (codes "b") (param (codes "c") (codes "d=e") ∷ [])
unfolding utf8_lossy utf8_valid_len utf8_error_len is_utf8 chars lib.Utf8.encode digits percent_decode
equals_sign_in_the_value = refl

empty_name_and_value : content_type (codes "a/b; =c; d=") ≡ kind (codes "a") (codes "b") (param (codes "") (codes "c") ∷ param (codes "d") (codes "") ∷ [])
unfolding utf8_lossy utf8_valid_len utf8_error_len is_utf8 chars lib.Utf8.encode digits percent_decode
empty_name_and_value = refl

-- what follows the closing quote is dropped
escapes_in_quotes : content_type (codes "a/b; c=\"d\\\"e\\\\f\\g\" h; i=j") ≡ kind (codes "a") (codes "b") (param (codes "c") (codes "d\"e\\fg") ∷ param (codes "i") (codes "j") ∷ [])
unfolding utf8_lossy utf8_valid_len utf8_error_len is_utf8 chars lib.Utf8.encode digits percent_decode
escapes_in_quotes = refl

quotes_end_with_the_segment : content_type (codes "a/b; c=\"d;e\\") ≡ kind (codes "a") (codes "b") (param (codes "c") (codes "d;e") ∷ [])
unfolding utf8_lossy utf8_valid_len utf8_error_len is_utf8 chars lib.Utf8.encode digits percent_decode
quotes_end_with_the_segment = refl

-- a value that begins with no quote keeps its quotes
quote_inside_a_value : content_type (codes "a/b; c=d\"e;f\"(g; h=i") ≡ kind (codes "a") (codes "b") (param (codes "c") (codes "d\"e;f\"") ∷ param (codes "h") (codes "i") ∷ [])
unfolding utf8_lossy utf8_valid_len utf8_error_len is_utf8 chars lib.Utf8.encode digits percent_decode
quote_inside_a_value = refl

words_in_a_value : content_type (codes "a/b; c==?utf-8?Q?=C3=A9?=") ≡ kind (codes "a") (codes "b") (param (codes "c") (195 ∷ 169 ∷ []) ∷ [])
unfolding utf8_lossy utf8_valid_len utf8_error_len is_utf8 chars lib.Utf8.encode digits percent_decode
words_in_a_value = refl

name_outside_ascii : content_type (codes "a/b; C" ++ 233 ∷ codes "=d") ≡ kind (codes "a") (codes "b") (param (99 ∷ 239 ∷ 191 ∷ 189 ∷ []) (codes "d") ∷ [])
unfolding utf8_lossy utf8_valid_len utf8_error_len is_utf8 chars lib.Utf8.encode digits percent_decode
name_outside_ascii = refl

-- ---- sections and charsets

-- the examples of RFC 2231, sections 3, 4 and 4.1, of which the first is shortened
rfc_2231_sections : content_type (codes "message/external-body; access-type=URL; URL*0=\"ftp://\"; URL*1=\"cs.utk.edu/pub/moose\"") ≡ kind (codes "message") (codes "external-body") (param (codes "access-type") (codes "URL") ∷ param (codes "url") (codes "ftp://cs.utk.edu/pub/moose") ∷ [])
unfolding utf8_lossy utf8_valid_len utf8_error_len is_utf8 chars lib.Utf8.encode digits percent_decode
rfc_2231_sections = refl

rfc_2231_charset : content_type (codes "application/x-stuff; title*=us-ascii'en-us'This%20is%20%2A%2A%2Afun%2A%2A%2A") ≡ kind (codes "application") (codes "x-stuff") (param (codes "title") (codes "This is ***fun***") ∷ [])
unfolding utf8_lossy utf8_valid_len utf8_error_len is_utf8 chars lib.Utf8.encode digits percent_decode
rfc_2231_charset = refl

rfc_2231_both : content_type (codes "application/x-stuff; title*0*=us-ascii'en'This%20is%20even%20more%20; title*1*=%2A%2A%2Afun%2A%2A%2A%20; title*2=\"isn't it!\"") ≡ kind (codes "application") (codes "x-stuff") (param (codes "title") (codes "This is even more ***fun*** isn't it!") ∷ [])
unfolding utf8_lossy utf8_valid_len utf8_error_len is_utf8 chars lib.Utf8.encode digits percent_decode
rfc_2231_both = refl

-- in any order, each as its name says
five_sections : disposition (codes "attachment; filename*4=e; filename*2*=%63; filename*0=\"a\"; filename*1*=b%; filename*3=d") ≡ file (codes "ab%cde")
unfolding utf8_lossy utf8_valid_len utf8_error_len is_utf8 chars lib.Utf8.encode digits percent_decode
five_sections = refl

ten_sections : content_type (codes "a/b; c*10=k; c*0=a; c*1=b; c*2=c; c*3=d; c*4=e; c*5=f; c*6=g; c*7=h; c*8=i; c*9=j") ≡ kind (codes "a") (codes "b") (param (codes "c") (codes "abcdefghijk") ∷ [])
unfolding utf8_lossy utf8_valid_len utf8_error_len is_utf8 chars lib.Utf8.encode digits percent_decode
ten_sections = refl

gap : disposition (codes "attachment; filename*0=a; filename*2=c") ≡ file (codes "a")
unfolding utf8_lossy utf8_valid_len utf8_error_len is_utf8 chars lib.Utf8.encode digits percent_decode
gap = refl

no_first_section : disposition (codes "attachment; filename*1=b; filename=c") ≡ file (codes "c")
unfolding utf8_lossy utf8_valid_len utf8_error_len is_utf8 chars lib.Utf8.encode digits percent_decode
no_first_section = refl

-- a name whose sections give nothing is left out
only_a_later_section : content_type (codes "a/b; c*1=d; e=f") ≡ kind (codes "a") (codes "b") (param (codes "e") (codes "f") ∷ [])
unfolding utf8_lossy utf8_valid_len utf8_error_len is_utf8 chars lib.Utf8.encode digits percent_decode
only_a_later_section = refl

leading_zero : content_type (codes "a/b; c*00=d; c*0=e") ≡ kind (codes "a") (codes "b") (param (codes "c") (codes "e") ∷ [])
unfolding utf8_lossy utf8_valid_len utf8_error_len is_utf8 chars lib.Utf8.encode digits percent_decode
leading_zero = refl

whole_before_sections : disposition (codes "attachment; filename*0=a; filename*=b; filename=c") ≡ file (codes "b")
unfolding utf8_lossy utf8_valid_len utf8_error_len is_utf8 chars lib.Utf8.encode digits percent_decode
whole_before_sections = refl

sections_before_plain : disposition (codes "inline; filename=c; filename*0=a") ≡ inline (codes "a")
unfolding utf8_lossy utf8_valid_len utf8_error_len is_utf8 chars lib.Utf8.encode digits percent_decode
sections_before_plain = refl

plain_section_before_encoded : disposition (codes "attachment; filename*0*=%61; filename*0=%62") ≡ file (codes "%62")
unfolding utf8_lossy utf8_valid_len utf8_error_len is_utf8 chars lib.Utf8.encode digits percent_decode
plain_section_before_encoded = refl

charset_in_latin1 : disposition (codes "attachment; filename*=ISO-8859-1''%e9") ≡ file (195 ∷ 169 ∷ [])
unfolding utf8_lossy utf8_valid_len utf8_error_len is_utf8 chars lib.Utf8.encode digits percent_decode
charset_in_latin1 = refl

charset_empty : disposition (codes "attachment; filename*=''%C3%A9") ≡ file (195 ∷ 169 ∷ [])
unfolding utf8_lossy utf8_valid_len utf8_error_len is_utf8 chars lib.Utf8.encode digits percent_decode
charset_empty = refl

charset_unknown : disposition (codes "attachment; filename*=x''%C3") ≡ file (239 ∷ 191 ∷ 189 ∷ [])
unfolding utf8_lossy utf8_valid_len utf8_error_len is_utf8 chars lib.Utf8.encode digits percent_decode
charset_unknown = refl

-- with one quote no charset is given
one_quote : disposition (codes "attachment; filename*=latin1'%C3%A9") ≡ file (codes "latin1'" ++ (195 ∷ 169 ∷ []))
unfolding utf8_lossy utf8_valid_len utf8_error_len is_utf8 chars lib.Utf8.encode digits percent_decode
one_quote = refl

no_quote : disposition (codes "attachment; filename*=a%20b") ≡ file (codes "a b")
unfolding utf8_lossy utf8_valid_len utf8_error_len is_utf8 chars lib.Utf8.encode digits percent_decode
no_quote = refl

-- the charset is cut off before escapes are read
encoded_quotes : disposition (codes "attachment; filename*=latin1%27%27%E9") ≡ file (codes "latin1''" ++ (239 ∷ 191 ∷ 189 ∷ []))
unfolding utf8_lossy utf8_valid_len utf8_error_len is_utf8 chars lib.Utf8.encode digits percent_decode
encoded_quotes = refl

-- only the first section names a charset, and only where it is encoded
charset_in_a_later_section : disposition (codes "attachment; filename*0=a; filename*1*=latin1''%41") ≡ file (codes "alatin1''A")
unfolding utf8_lossy utf8_valid_len utf8_error_len is_utf8 chars lib.Utf8.encode digits percent_decode
charset_in_a_later_section = refl

charset_in_a_plain_section : disposition (codes "attachment; filename*0=latin1''%E9") ≡ file (codes "latin1''%E9")
unfolding utf8_lossy utf8_valid_len utf8_error_len is_utf8 chars lib.Utf8.encode digits percent_decode
charset_in_a_plain_section = refl

-- the bytes are joined before they are read
character_in_two_sections : disposition (codes "attachment; filename*0*=''%C3; filename*1*=%A9") ≡ file (195 ∷ 169 ∷ [])
unfolding utf8_lossy utf8_valid_len utf8_error_len is_utf8 chars lib.Utf8.encode digits percent_decode
character_in_two_sections = refl

no_words_in_sections : disposition (codes "attachment; filename*0=\"=?utf-8?Q?a?=\"") ≡ file (codes "=?utf-8?Q?a?=")
unfolding utf8_lossy utf8_valid_len utf8_error_len is_utf8 chars lib.Utf8.encode digits percent_decode
no_words_in_sections = refl

order_of_first_segments : content_type (codes "a/b; d=1; c*1=y; D*0=2; e=3; c*0=x") ≡ kind (codes "a") (codes "b") (param (codes "d") (codes "2") ∷ param (codes "c") (codes "xy") ∷ param (codes "e") (codes "3") ∷ [])
unfolding utf8_lossy utf8_valid_len utf8_error_len is_utf8 chars lib.Utf8.encode digits percent_decode
order_of_first_segments = refl

-- ---- a parameter of a type

param_in_any_case : param_of (content_type (codes "a/b; Charset=c")) (codes "CHARSET") ≡ Some (codes "c")
unfolding utf8_lossy utf8_valid_len utf8_error_len is_utf8 chars lib.Utf8.encode digits percent_decode
param_in_any_case = refl

no_param : param_of (content_type (codes "a/b; c=d")) (codes "e") ≡ None
unfolding utf8_lossy utf8_valid_len utf8_error_len is_utf8 chars lib.Utf8.encode digits percent_decode
no_param = refl

-- ---- dispositions

naive : disposition (codes "attachment; filename*=utf-8''na%C3%AFve.txt") ≡ file (codes "na" ++ (195 ∷ 175 ∷ codes "ve.txt"))
unfolding utf8_lossy utf8_valid_len utf8_error_len is_utf8 chars lib.Utf8.encode digits percent_decode
naive = refl

no_disposition : disposition [] ≡ inline []
unfolding utf8_lossy utf8_valid_len utf8_error_len is_utf8 chars lib.Utf8.encode digits percent_decode
no_disposition = refl

words_after : disposition (codes "Attachment x; FileName=\"a b.txt\"") ≡ file (codes "a b.txt")
unfolding utf8_lossy utf8_valid_len utf8_error_len is_utf8 chars lib.Utf8.encode digits percent_decode
words_after = refl

comment_after : disposition (codes "attachment(c)") ≡ file []
unfolding utf8_lossy utf8_valid_len utf8_error_len is_utf8 chars lib.Utf8.encode digits percent_decode
comment_after = refl

other_word : disposition (codes "attachments; filename=a") ≡ inline (codes "a")
unfolding utf8_lossy utf8_valid_len utf8_error_len is_utf8 chars lib.Utf8.encode digits percent_decode
other_word = refl

-- the example of RFC 9078, section 4.1
rfc_9078 : disposition (codes "reaction") ≡ reaction []
unfolding utf8_lossy utf8_valid_len utf8_error_len is_utf8 chars lib.Utf8.encode digits percent_decode
rfc_9078 = refl

reaction_in_capitals : disposition (codes "Reaction(c); filename=a") ≡ reaction (codes "a")
unfolding utf8_lossy utf8_valid_len utf8_error_len is_utf8 chars lib.Utf8.encode digits percent_decode
reaction_in_capitals = refl

reactions : disposition (codes "reactions") ≡ inline []
unfolding utf8_lossy utf8_valid_len utf8_error_len is_utf8 chars lib.Utf8.encode digits percent_decode
reactions = refl

file_name_empty : disposition (codes "attachment; filename=\"\"; filename=a") ≡ file []
unfolding utf8_lossy utf8_valid_len utf8_error_len is_utf8 chars lib.Utf8.encode digits percent_decode
file_name_empty = refl

word_in_a_file_name : disposition (codes "attachment; filename=\"=?utf-8?B?w6k=?=.txt\"") ≡ file (195 ∷ 169 ∷ codes ".txt")
unfolding utf8_lossy utf8_valid_len utf8_error_len is_utf8 chars lib.Utf8.encode digits percent_decode
word_in_a_file_name = refl
