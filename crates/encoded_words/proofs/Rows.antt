-- Worked rows of the definitions, which compute.
use Rattle.std.proofs.Common.{◌≡◌, [], ◌∷◌, ◌++◌, codes, refl}
use Rattle.std.specs.Str.{is_utf8, chars}
use Rattle.std.specs.Str.Lossy.{utf8_lossy, utf8_valid_len, utf8_error_len}
use Rattle.encoded_words.specs.Runs.{decode_words}

two_words : decode_words (codes "=?utf-8?Q?J=C3=BCrgen?= =?utf-8?Q?_M?=") ≡ codes "J" ++ (195 ∷ 188 ∷ codes "rgen M")
unfolding utf8_lossy utf8_valid_len utf8_error_len is_utf8 chars lib.Utf8.encode
two_words = refl

-- the examples of RFC 2047, section 8
rfc_two_words : decode_words (codes "(=?ISO-8859-1?Q?a?= =?ISO-8859-1?Q?b?=)") ≡ codes "(ab)"
unfolding utf8_lossy utf8_valid_len utf8_error_len is_utf8 chars lib.Utf8.encode
rfc_two_words = refl

rfc_word_and_text : decode_words (codes "(=?ISO-8859-1?Q?a?= b)") ≡ codes "(a b)"
unfolding utf8_lossy utf8_valid_len utf8_error_len is_utf8 chars lib.Utf8.encode
rfc_word_and_text = refl

rfc_wide_space : decode_words (codes "(=?ISO-8859-1?Q?a?=  =?ISO-8859-2?Q?_b?=)") ≡ codes "(a b)"
unfolding utf8_lossy utf8_valid_len utf8_error_len is_utf8 chars lib.Utf8.encode
rfc_wide_space = refl

rfc_base64 : decode_words (codes "=?ISO-8859-1?B?SWYgeW91IGNhbiByZWFkIHRoaXMgeW8=?=") ≡ codes "If you can read this yo"
unfolding utf8_lossy utf8_valid_len utf8_error_len is_utf8 chars lib.Utf8.encode
rfc_base64 = refl

nothing : decode_words [] ≡ []
unfolding utf8_lossy utf8_valid_len utf8_error_len is_utf8 chars lib.Utf8.encode
nothing = refl

two_charsets : decode_words (codes "=?utf-8?q?=c3=a9?= \t =?Latin1?B?6Q==?=") ≡ 195 ∷ 169 ∷ 195 ∷ 169 ∷ []
unfolding utf8_lossy utf8_valid_len utf8_error_len is_utf8 chars lib.Utf8.encode
two_charsets = refl

-- each half of a character that is spread over two words is U+FFFD
character_in_two_words : decode_words (codes "=?utf-8?Q?=C3?= =?utf-8?Q?=A9?=") ≡ 239 ∷ 191 ∷ 189 ∷ 239 ∷ 191 ∷ 189 ∷ []
unfolding utf8_lossy utf8_valid_len utf8_error_len is_utf8 chars lib.Utf8.encode
character_in_two_words = refl

words_that_touch : decode_words (codes "x=?utf-8?Q?a?==?utf-8?Q?b?=y") ≡ codes "xaby"
unfolding utf8_lossy utf8_valid_len utf8_error_len is_utf8 chars lib.Utf8.encode
words_that_touch = refl

outer_white_space : decode_words (codes " =?utf-8?Q?a?= \t") ≡ codes " a \t"
unfolding utf8_lossy utf8_valid_len utf8_error_len is_utf8 chars lib.Utf8.encode
outer_white_space = refl

-- an escaped `_` stays
underscores : decode_words (codes "=?us-ascii?Q?a_b=5Fc=_?=") ≡ codes "a b_c= "
unfolding utf8_lossy utf8_valid_len utf8_error_len is_utf8 chars lib.Utf8.encode
underscores = refl

spaces_in_text : decode_words (codes "=?utf-8?Q? a b ?=") ≡ codes " a b "
unfolding utf8_lossy utf8_valid_len utf8_error_len is_utf8 chars lib.Utf8.encode
spaces_in_text = refl

text_empty : decode_words (codes "a=?utf-8?B??=b") ≡ codes "ab"
unfolding utf8_lossy utf8_valid_len utf8_error_len is_utf8 chars lib.Utf8.encode
text_empty = refl

language : decode_words (codes "=?utf-8*de?Q?=C3=BC?=") ≡ 195 ∷ 188 ∷ []
unfolding utf8_lossy utf8_valid_len utf8_error_len is_utf8 chars lib.Utf8.encode
language = refl

charset_before_language_empty : decode_words (codes "=?*de?Q?a=E9?=") ≡ 97 ∷ 239 ∷ 191 ∷ 189 ∷ []
unfolding utf8_lossy utf8_valid_len utf8_error_len is_utf8 chars lib.Utf8.encode
charset_before_language_empty = refl

-- what is no word is kept as it is
charset_empty : decode_words (codes "=??Q?a?=") ≡ codes "=??Q?a?="
unfolding utf8_lossy utf8_valid_len utf8_error_len is_utf8 chars lib.Utf8.encode
charset_empty = refl

charset_with_space : decode_words (codes "=?utf 8?Q?a?=") ≡ codes "=?utf 8?Q?a?="
unfolding utf8_lossy utf8_valid_len utf8_error_len is_utf8 chars lib.Utf8.encode
charset_with_space = refl

encoding_unknown : decode_words (codes "=?utf-8?X?a?=") ≡ codes "=?utf-8?X?a?="
unfolding utf8_lossy utf8_valid_len utf8_error_len is_utf8 chars lib.Utf8.encode
encoding_unknown = refl

text_with_tab : decode_words (codes "=?utf-8?Q?a\tb?=") ≡ codes "=?utf-8?Q?a\tb?="
unfolding utf8_lossy utf8_valid_len utf8_error_len is_utf8 chars lib.Utf8.encode
text_with_tab = refl

text_with_mark : decode_words (codes "=?utf-8?Q?a?b?=") ≡ codes "=?utf-8?Q?a?b?="
unfolding utf8_lossy utf8_valid_len utf8_error_len is_utf8 chars lib.Utf8.encode
text_with_mark = refl

word_not_ended : decode_words (codes "=?utf-8?Q?a?") ≡ codes "=?utf-8?Q?a?"
unfolding utf8_lossy utf8_valid_len utf8_error_len is_utf8 chars lib.Utf8.encode
word_not_ended = refl

word_in_word : decode_words (codes "=?=?utf-8?Q?a?=") ≡ codes "=?a"
unfolding utf8_lossy utf8_valid_len utf8_error_len is_utf8 chars lib.Utf8.encode
word_in_word = refl

stretches_in_utf8 : decode_words (195 ∷ 169 ∷ codes "=?utf-8?Q?a?=" ++ (233 ∷ [])) ≡ 195 ∷ 169 ∷ codes "a" ++ (239 ∷ 191 ∷ 189 ∷ [])
unfolding utf8_lossy utf8_valid_len utf8_error_len is_utf8 chars lib.Utf8.encode
stretches_in_utf8 = refl
