-- Quoted-printable, line by line (RFC 2045, section 6.7).
use Rattle.std.specs.Prelude.{◌≡◌, ℕ, ◌+◌, ◌*◌, ◌-◌, Bool, true, false, ◌&&◌, ◌==◌, nat_eq, nat_lt, if◌then◌else◌, List, [], ◌∷◌, ◌++◌, length, take, codes, flat_map, Some, None}
use Rattle.std.specs.List.{ends_with}
use Rattle.kit.specs.Lines.{raw_lines, content}
use Rattle.kit.specs.White.{is_blank, trim_end}
use Rattle.transfer_code.specs.Escapes.{digit_of, escape_in, unescaped}

-- whether a line break, LF or CR LF, ends a raw line
abbrev pub is_broken : List ℕ → Bool
is_broken raw = nat_lt (length (content raw)) (length raw)

-- What a line without white space at its end decodes to, with the break after it: a last `=` (61) makes the break
-- a soft one, which joins the next line, and any other break is an LF (10).
abbrev pub trimmed_text : List ℕ → Bool → List ℕ
trimmed_text line broken =
    if ends_with nat_eq line (codes "=") then unescaped (take (length line - 1) line)
    else unescaped line ++ (if broken then 10 ∷ [] else [])

-- what a line decodes to: transport may have added white space at its end
abbrev pub line_text : List ℕ → Bool → List ℕ
line_text content broken = trimmed_text (trim_end content) broken

-- The same as a relation, by the rules of the RFC: what is left of a line on the left, and what it decodes to on the
-- right. Of white space at the end only the line break is left (rules 3 and 4); `=` before it is a soft break (rule 5);
-- an escape is its byte (rule 1); and any other byte is itself (rule 2).
pub data LineText (broken : Bool) : List ℕ → List ℕ → Type 0 where
  line_end : (rest : List ℕ) → is_blank rest ≡ true → LineText broken rest (if broken then 10 ∷ [] else [])
  soft_break : (rest : List ℕ) → is_blank rest ≡ true → LineText broken (61 ∷ rest) []
  an_escape : (high low h l : ℕ) (rest out : List ℕ) → digit_of high ≡ Some h → digit_of low ≡ Some l
      → LineText broken rest out → LineText broken (61 ∷ high ∷ low ∷ rest) ((16 * h + l) ∷ out)
  a_byte : (b : ℕ) (rest out : List ℕ) → is_blank (b ∷ rest) ≡ false → (b == 61 && is_blank rest) ≡ false
      → escape_in (b ∷ rest) ≡ None → LineText broken rest out → LineText broken (b ∷ rest) (b ∷ out)

-- what text in quoted-printable decodes to
abbrev pub decode_quoted : List ℕ → List ℕ
decode_quoted bytes = flat_map (λ raw. line_text (content raw) (is_broken raw)) (raw_lines bytes)

-- raw lines on the left, and the text that they decode to in a row
pub data LinesText : List (List ℕ) → List ℕ → Type 0 where
  no_line : LinesText [] []
  a_line : (raw text : List ℕ) (raws : List (List ℕ)) (out : List ℕ) → LineText (is_broken raw) (content raw) text
      → LinesText raws out → LinesText (raw ∷ raws) (text ++ out)
