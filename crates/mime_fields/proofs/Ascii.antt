-- Visible characters are ASCII, and so are texts by themselves.
use Rattle.std.proofs.Common.{◌≡◌, ℕ, ◌<◌, true, List, [], ◌∷◌, map, refl, ap, ◌∙◌, arith}
use Rattle.std.specs.Prelude.{IsTrue, encode_utf8_all, length, nat_le}
use Rattle.std.specs.List.{list_all}
use Rattle.std.specs.Char.{is_ascii_graphic, to_ascii_lowercase}
use Rattle.std.specs.Str.{IsAscii}
use Rattle.std.proofs.lemmas.Bool.{and_parts}
use Rattle.std.proofs.lemmas.Bool.Decides.{nat_tests}
use Rattle.std.proofs.lemmas.Str.Ascii.{IsAscii-cons, IsAscii-map, IsAscii-nil, encodes-IsAscii, lowercase_ascii}
use Rattle.kit.specs.declared.charset.Charset.TheVariants.{Ascii}
use Rattle.kit.specs.Charsets.{ascii_char, to_text}
use Rattle.kit.specs.Letters.{lowered}
use Rattle.kit.specs.Printing.{is_visible}

graphic_small : (b : ℕ) → is_ascii_graphic b ≡ true → b < 128
graphic_small b h = grind (arith, nat_tests)

graphic_ascii : (bytes : List ℕ) → list_all is_ascii_graphic bytes ≡ true → IsAscii bytes
graphic_ascii [] h = IsAscii-nil
graphic_ascii (b ∷ bs) h =
    let parts = and_parts (is_ascii_graphic b) (list_all is_ascii_graphic bs) h in
    IsAscii-cons b bs (graphic_small b parts.0) (graphic_ascii bs parts.1)

ascii_char-same : (b : ℕ) → b < 128 → ascii_char b ≡ b
ascii_char-same b h = grind (arith, nat_tests)

small_chars : (bytes : List ℕ) → list_all is_ascii_graphic bytes ≡ true → map ascii_char (lowered bytes) ≡ lowered bytes
small_chars [] h = refl
small_chars (b ∷ bs) h =
    let parts = and_parts (is_ascii_graphic b) (list_all is_ascii_graphic bs) h in
    let c = to_ascii_lowercase b in
    ap (λ (x : ℕ). x ∷ map ascii_char (lowered bs)) (ascii_char-same c (lowercase_ascii b (graphic_small b parts.0)))
    ∙ ap (λ (xs : List ℕ). c ∷ xs) (small_chars bs parts.1)

pub lowered_text : (word : List ℕ) → IsTrue (is_visible word) → to_text Ascii (lowered word) ≡ lowered word
lowered_text word visible =
    let graphic = (and_parts (nat_le 1 (length word)) (list_all is_ascii_graphic word) visible).1 in
    ap encode_utf8_all (small_chars word graphic)
    ∙ encodes-IsAscii (lowered word) (IsAscii-map to_ascii_lowercase word lowercase_ascii (graphic_ascii word graphic))
