-- A charset is a map from bytes to a text. A text is its characters in UTF-8 (RFC 3629, section 3).
use Rattle.std.specs.Prelude.{ℕ, ◌||◌, nat_lt, if◌then◌else◌, List, codes, map, encode_utf8_all}
use Rattle.std.specs.Str.Lossy.{utf8_lossy}
use Rattle.kit.specs.declared.charset.Charset.{Charset}
use Rattle.kit.specs.declared.charset.Charset.TheVariants.{Utf8, Latin1, Ascii}
use Rattle.kit.specs.Letters.{same_name}

-- the charset of a name, whose case does not count (RFC 2046, section 4.1.2); any other name is ASCII
abbrev pub charset_of : List ℕ → Charset
charset_of name =
    if same_name name (codes "utf-8") || same_name name (codes "utf8") then Utf8
    else if same_name name (codes "iso-8859-1") || same_name name (codes "latin1") then Latin1
    else Ascii

-- the character of a byte of ASCII, and U+FFFD for any other byte
abbrev pub ascii_char : ℕ → ℕ
ascii_char b = if nat_lt b 128 then b else 0xFFFD

-- the text of bytes: in Latin-1 each byte is the character of its number
abbrev pub to_text : Charset → List ℕ → List ℕ
to_text Utf8 bytes = utf8_lossy bytes
to_text Latin1 bytes = encode_utf8_all bytes
to_text Ascii bytes = encode_utf8_all (map ascii_char bytes)
