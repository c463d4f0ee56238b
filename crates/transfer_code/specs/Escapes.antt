-- An escape is `=` (61) and two hexadecimal digits, and encodes a byte, in quoted-printable (RFC 2045, section 6.7)
-- and in an encoded word (RFC 2047, section 4.2).
use Rattle.std.specs.Prelude.{◌≡◌, ℕ, ◌+◌, ◌*◌, ◌-◌, ◌&&◌, nat_le, ◌==◌, if◌then◌else◌, List, [], ◌∷◌, Option, Some, None, option_and_then, option_map, unwrap_or, is_some}

-- the value of a hexadecimal digit of either case
abbrev pub digit_of : ℕ → Option ℕ
digit_of b =
    if nat_le 48 b && nat_le b 57 then Some (b - 48)
    else if nat_le 65 b && nat_le b 70 then Some (b - 55)
    else if nat_le 97 b && nat_le b 102 then Some (b - 87)
    else None

-- the byte of the escape that these bytes begin with
abbrev pub escape_in : List ℕ → Option ℕ
escape_in (b ∷ high ∷ low ∷ bs) =
    if b == 61 then option_and_then (λ h. option_map (λ l. 16 * h + l) (digit_of low)) (digit_of high) else None
escape_in _ = None

-- Encoded bytes on the left, and what they decode to on the right, by cases on the bytes that are left: an escape
-- is its byte, and any other byte, a `=` too, is itself.
pub data Unescapes : List ℕ → List ℕ → Type 0 where
  at_end : Unescapes [] []
  escape : (high low h l : ℕ) (bs out : List ℕ) → digit_of high ≡ Some h → digit_of low ≡ Some l
      → Unescapes bs out → Unescapes (61 ∷ high ∷ low ∷ bs) ((16 * h + l) ∷ out)
  itself : (b : ℕ) (bs out : List ℕ) → escape_in (b ∷ bs) ≡ None
      → Unescapes bs out → Unescapes (b ∷ bs) (b ∷ out)

-- the same as a function: the bytes, each escape as its byte
abbrev pub unescaped : List ℕ → List ℕ
unescaped [] = []
unescaped (b ∷ []) = b ∷ []
unescaped (b ∷ c ∷ []) = b ∷ c ∷ []
unescaped (b ∷ high ∷ low ∷ bs) =
    let byte = escape_in (b ∷ high ∷ low ∷ bs) in
    let after_escape = unescaped bs in
    let after_byte = unescaped (high ∷ low ∷ bs) in
    if is_some byte then unwrap_or byte b ∷ after_escape else b ∷ after_byte
