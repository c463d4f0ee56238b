-- Worked rows of the definitions, which compute.
use Rattle.std.proofs.Common.{◌≡◌, [], ◌∷◌, ◌++◌, codes, Some, None, refl}
use Rattle.transfer_code.specs.declared.encoding.Encoding.TheVariants.{Plain, Quoted, Base64}
use Rattle.kit.specs.White.{trim}
use Rattle.transfer_code.specs.Escapes.{escape_in, unescaped}
use Rattle.transfer_code.specs.Quoted.{decode_quoted}
use Rattle.transfer_code.specs.Base64.{sextets, decode_base64}
use Rattle.transfer_code.specs.Encodings.{encoding_of, decode_body}

-- ---- names of encodings

named_quoted : encoding_of (codes " Quoted-Printable\t") ≡ Quoted
named_quoted = refl

named_base64 : encoding_of (codes "BASE64") ≡ Base64
named_base64 = refl

named_8bit : encoding_of (codes "8bit") ≡ Plain
named_8bit = refl

named_none : encoding_of [] ≡ Plain
named_none = refl

named_with_comment : encoding_of (codes "base64 (once)") ≡ Plain
named_with_comment = refl

trimmed : trim (codes "\t a b \t ") ≡ codes "a b"
trimmed = refl

trimmed_to_nothing : trim (codes " \t ") ≡ []
trimmed_to_nothing = refl

plain_keeps : decode_body Plain (codes "a=3D \r\n") ≡ codes "a=3D \r\n"
plain_keeps = refl

-- ---- quoted-printable

-- the bytes 195 and 169 are é in UTF-8
quoted_lines : decode_body Quoted (codes "caf=C3=A9 =3D=\nok  \nx=zz") ≡ codes "caf" ++ (195 ∷ 169 ∷ codes " =ok\nx=zz")
quoted_lines = refl

-- the soft line breaks of RFC 2045, section 6.7, rule 5
quoted_soft : decode_quoted (codes "Now's the time =\r\nfor all folk to come=\r\n to the aid of their country.")
    ≡ codes "Now's the time for all folk to come to the aid of their country."
quoted_soft = refl

-- white space after a soft break is of the transport, and white space before it is of the text
quoted_white : decode_quoted (codes "a =\t \r\nb\t \r\n") ≡ codes "a b\n"
quoted_white = refl

quoted_soft_at_end : decode_quoted (codes "ab=") ≡ codes "ab"
quoted_soft_at_end = refl

quoted_sign_alone : decode_quoted (codes "=") ≡ []
quoted_sign_alone = refl

quoted_two_signs : decode_quoted (codes "a==\nb") ≡ codes "a=b"
quoted_two_signs = refl

quoted_empty_lines : decode_quoted (codes "\n\r\n \n") ≡ codes "\n\n\n"
quoted_empty_lines = refl

quoted_no_break : decode_quoted (codes "a \t") ≡ codes "a"
quoted_no_break = refl

quoted_small_digits : decode_quoted (codes "=c3=a9=3d") ≡ 195 ∷ 169 ∷ 61 ∷ []
quoted_small_digits = refl

-- an escaped space at the end of a line stays, and so does an escaped line break
quoted_escaped_white : decode_quoted (codes "a=20\nb=0D=0A=\nc") ≡ codes "a \nb\r\nc"
quoted_escaped_white = refl

quoted_half_escape : decode_quoted (codes "=4\n=G0=") ≡ codes "=4\n=G0"
quoted_half_escape = refl

-- a carriage return alone breaks no line
quoted_lone_cr : decode_quoted (codes "a\rb\r\r\n") ≡ codes "a\rb\r\n"
quoted_lone_cr = refl

escape_large : escape_in (codes "=fF") ≡ Some 255
escape_large = refl

escape_none : escape_in (codes "=f") ≡ None
escape_none = refl

escaped_word : unescaped (codes "na=C3=AFve%41=") ≡ codes "na" ++ (195 ∷ 175 ∷ codes "ve%41=")
escaped_word = refl

-- ---- base64

base64_unpadded : decode_body Base64 (codes "SGVsbG8gd29ybGQ") ≡ codes "Hello world"
base64_unpadded = refl

-- the vectors of RFC 4648, section 10
base64_nothing : decode_base64 [] ≡ []
base64_nothing = refl

base64_f : decode_base64 (codes "Zg==") ≡ codes "f"
base64_f = refl

base64_fo : decode_base64 (codes "Zm8=") ≡ codes "fo"
base64_fo = refl

base64_foobar : decode_base64 (codes "Zm9vYmFy") ≡ codes "foobar"
base64_foobar = refl

base64_ends_at_padding : decode_base64 (codes "Zg==Zm8=") ≡ codes "f"
base64_ends_at_padding = refl

base64_one_left : decode_base64 (codes "Zm9vY") ≡ codes "foo"
base64_one_left = refl

base64_one_alone : decode_base64 (codes "Z") ≡ []
base64_one_alone = refl

-- the last symbol of `Zg` is 100000: its four last bits are left over, whatever they are
base64_bits_left : decode_base64 (codes "Zv") ≡ codes "f"
base64_bits_left = refl

base64_lines : decode_base64 (codes "Zm9v\r\n YmFy\r\n") ≡ codes "foobar"
base64_lines = refl

base64_no_symbols : decode_base64 (codes "Z-m_9.v\"" ++ (200 ∷ [])) ≡ codes "foo"
base64_no_symbols = refl

sextets_at_the_ends : sextets (codes "A/+9=B") ≡ 0 ∷ 63 ∷ 62 ∷ 61 ∷ []
sextets_at_the_ends = refl

base64_high_bytes : decode_base64 (codes "/////w==") ≡ 255 ∷ 255 ∷ 255 ∷ 255 ∷ []
base64_high_bytes = refl
