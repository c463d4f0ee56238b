-- Worked rows of the definitions, which compute.
use Rattle.std.proofs.Common.{◌≡◌, true, false, [], ◌∷◌, codes, Some, None, refl}
use Rattle.std.specs.Prelude.{map, replicate}
use Rattle.std.specs.Str.{is_utf8, chars}
use Rattle.std.specs.Str.Lossy.{utf8_lossy, utf8_valid_len, utf8_error_len}
use Rattle.kit.specs.declared.charset.Charset.TheVariants.{Utf8, Latin1, Ascii}
use Rattle.kit.specs.Charsets.{charset_of, to_text}
use Rattle.kit.specs.Cuts.{strip_prefix}
use Rattle.kit.specs.Numbers.{number}
use Rattle.kit.specs.Letters.{lowered, same_name}
use Rattle.kit.specs.Reading.{read_as}
use Rattle.kit.specs.Lines.{raw_lines, content, lines}
use Rattle.kit.specs.Ids.{is_id}
use Rattle.kit.specs.Addresses.{is_addr}
use Rattle.kit.specs.White.{is_blank}

lines_of_four_kinds : lines (codes "a\r\nb\n\nc\r") ≡ record { start = 0; end = 1; next = 3 } ∷ record { start = 3; end = 4; next = 5 }
    ∷ record { start = 5; end = 5; next = 6 } ∷ record { start = 6; end = 8; next = 8 } ∷ []
lines_of_four_kinds = refl

contents_of_four_kinds : map content (raw_lines (codes "a\r\nb\n\nc\r")) ≡ codes "a" ∷ codes "b" ∷ [] ∷ codes "c\r" ∷ []
contents_of_four_kinds = refl

content_empty : content (codes "\r\n") ≡ []
content_empty = refl

lines_of_nothing : lines [] ≡ []
lines_of_nothing = refl

content_keeps_one_cr : content (codes "a\r\r\n") ≡ codes "a\r"
content_keeps_one_cr = refl

prefix_stripped : strip_prefix (codes "abc") (codes "ab") ≡ Some (codes "c")
prefix_stripped = refl

prefix_other : strip_prefix (codes "ac") (codes "ab") ≡ None
prefix_other = refl

prefix_longer : strip_prefix (codes "a") (codes "ab") ≡ None
prefix_longer = refl

number_with_zeros : number 1 4 (codes "0070") ≡ Some 70
number_with_zeros = refl

number_too_short : number 4 4 (codes "070") ≡ None
number_too_short = refl

number_with_sign : number 1 4 (codes "+70") ≡ None
number_with_sign = refl

blank_space_and_tab : is_blank (codes " \t") ≡ true
blank_space_and_tab = refl

blank_nothing : is_blank [] ≡ true
blank_nothing = refl

blank_with_lf : is_blank (codes " \n") ≡ false
blank_with_lf = refl

id_plain : read_as is_id (codes "a@b") ≡ Some (codes "a@b")
id_plain = refl

id_empty : read_as is_id [] ≡ None
id_empty = refl

id_longest : is_id (replicate 998 33) ≡ true
id_longest = refl

id_too_long : is_id (replicate 999 33) ≡ false
id_too_long = refl

id_in_brackets : is_id (codes "<a@b>") ≡ false
id_in_brackets = refl

id_with_space : is_id (codes "a @b") ≡ false
id_with_space = refl

addr_plain : is_addr (codes "bob@x.org") ≡ true
addr_plain = refl

addr_longest : is_addr (97 ∷ 64 ∷ replicate 252 97) ≡ true
addr_longest = refl

addr_too_long : is_addr (97 ∷ 64 ∷ replicate 253 97) ≡ false
addr_too_long = refl

addr_no_domain : is_addr (codes "ab@") ≡ false
addr_no_domain = refl

addr_short : is_addr (codes "a@") ≡ false
addr_short = refl

addr_no_name : is_addr (codes "@ab") ≡ false
addr_no_name = refl

addr_two_ats : is_addr (codes "a@b@c") ≡ false
addr_two_ats = refl

addr_colon : is_addr (codes "a:b@c") ≡ false
addr_colon = refl

addr_colon_in_literal : is_addr (codes "a@[x:y]") ≡ true
addr_colon_in_literal = refl

addr_colon_in_open_literal : is_addr (codes "a@[x:y") ≡ true
addr_colon_in_open_literal = refl

addr_colon_after_literal : is_addr (codes "a@[x]:y") ≡ false
addr_colon_after_literal = refl

addr_capital : is_addr (codes "Bob@x.org") ≡ false
addr_capital = refl

addr_lowered : read_as is_addr (lowered (codes "BOB@X.Org")) ≡ Some (codes "bob@x.org")
addr_lowered = refl

name_same : same_name (codes "MESSAGE-id") (codes "Message-ID") ≡ true
name_same = refl

name_other : same_name (codes "Message-ID") (codes "Message_ID") ≡ false
name_other = refl

charset_utf8 : charset_of (codes "UTF-8") ≡ Utf8
charset_utf8 = refl

charset_utf8_plain : charset_of (codes "utf8") ≡ Utf8
charset_utf8_plain = refl

charset_latin1 : charset_of (codes "Latin1") ≡ Latin1
charset_latin1 = refl

charset_latin1_long : charset_of (codes "ISO-8859-1") ≡ Latin1
charset_latin1_long = refl

charset_other : charset_of (codes "iso-8859-15") ≡ Ascii
charset_other = refl

charset_none : charset_of [] ≡ Ascii
charset_none = refl

-- é is two bytes in UTF-8
text_latin1 : to_text Latin1 (233 ∷ []) ≡ 195 ∷ 169 ∷ []
unfolding lib.Utf8.encode
text_latin1 = refl

-- U+FFFD is three
text_ascii : to_text Ascii (97 ∷ 233 ∷ []) ≡ 97 ∷ 239 ∷ 191 ∷ 189 ∷ []
unfolding lib.Utf8.encode
text_ascii = refl

text_utf8 : to_text Utf8 (195 ∷ 169 ∷ []) ≡ 195 ∷ 169 ∷ []
unfolding utf8_lossy utf8_valid_len utf8_error_len is_utf8 chars lib.Utf8.encode
text_utf8 = refl

-- a character that is cut short becomes one U+FFFD
text_utf8_cut : to_text Utf8 (226 ∷ 130 ∷ 97 ∷ []) ≡ 239 ∷ 191 ∷ 189 ∷ 97 ∷ []
unfolding utf8_lossy utf8_valid_len utf8_error_len is_utf8 chars lib.Utf8.encode
text_utf8_cut = refl
