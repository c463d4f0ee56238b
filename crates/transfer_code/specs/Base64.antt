-- Base64 (RFC 2045, section 6.8).
use Rattle.std.specs.Prelude.{◌≡◌, ℕ, ◌+◌, ◌-◌, ◌*◌, ◌/◌, ◌%◌, Bool, not, ◌==◌, if◌then◌else◌, List, [], ◌∷◌, ◌++◌, length, take, codes, flat_map, filter_map, take_while, Option, position}
use Rattle.std.specs.List.{list_any}
use Rattle.base64.specs.Engines.{standard_no_pad}
use Rattle.base64.specs.GeneralPurpose.{encode_of, IsBytes}

abbrev pub alphabet : List ℕ
alphabet = codes "ABCDEFGHIJKLMNOPQRSTUVWXYZabcdefghijklmnopqrstuvwxyz0123456789+/"

-- the value of a symbol: its index in the alphabet
abbrev pub sextet_of : ℕ → Option ℕ
sextet_of b = position (λ c. c == b) alphabet

-- what precedes the first `=` (61)
abbrev pub before_padding : List ℕ → List ℕ
before_padding bytes = take_while (λ b. not (b == 61)) bytes

-- the sextets of the symbols before the first `=`; what is no symbol is skipped
abbrev pub sextets : List ℕ → List ℕ
sextets bytes = filter_map sextet_of (before_padding bytes)

-- the bits of a sextet, the highest first
abbrev pub six_bits : ℕ → List ℕ
six_bits n = n / 32 ∷ n / 16 % 2 ∷ n / 8 % 2 ∷ n / 4 % 2 ∷ n / 2 % 2 ∷ n % 2 ∷ []

-- bits by eight, without a last short group
abbrev pub octets : List ℕ → List ℕ
octets (a ∷ b ∷ c ∷ d ∷ e ∷ f ∷ g ∷ h ∷ bits) =
    (128 * a + 64 * b + 32 * c + 16 * d + 8 * e + 4 * f + 2 * g + h) ∷ octets bits
octets _ = []

-- what text in base64 decodes to
abbrev pub decode_base64 : List ℕ → List ℕ
decode_base64 bytes = octets (flat_map six_bits (sextets bytes))

-- ---- symbols that decode exactly

-- the symbols are those of some bytes, without padding
abbrev pub IsEncoded : List ℕ → Type 0
IsEncoded symbols = (bytes : List ℕ) × IsBytes bytes × (symbols ≡ encode_of standard_no_pad bytes)

abbrev pub is_symbol : ℕ → Bool
is_symbol b = list_any (λ c. c == b) alphabet

-- whole groups of four: one symbol left over is dropped, and two or three are filled up with `A` (65), which is six zero bits
abbrev pub completed : List ℕ → List ℕ
completed symbols =
    if length symbols % 4 == 1 then take (length symbols - 1) symbols
    else if length symbols % 4 == 2 then symbols ++ 65 ∷ 65 ∷ []
    else if length symbols % 4 == 3 then symbols ++ 65 ∷ []
    else symbols
