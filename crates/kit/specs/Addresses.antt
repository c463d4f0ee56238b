-- Addresses in small letters (RFC 5322, section 3.4.1), of which a domain may be a literal in brackets.
use Rattle.std.specs.Prelude.{ℕ, Bool, true, false, ◌&&◌, ◌||◌, not, ◌==◌, nat_eq, nat_le, List, [], ◌∷◌, length, codes, count_by}
use Rattle.std.specs.List.{list_all, list_any, starts_with, ends_with}
use Rattle.std.specs.Char.{is_ascii_graphic, is_ascii_uppercase}

-- from 33 to 126, no capital letter, and none of the marks that separate addresses
abbrev pub is_addr_byte : ℕ → Bool
is_addr_byte b = is_ascii_graphic b && not (is_ascii_uppercase b) && not (list_any (λ c. c == b) (codes "<>(),;\""))

-- one `@` (64), with something on either side
abbrev pub has_inner_at : List ℕ → Bool
has_inner_at bytes =
    count_by (λ b. b == 64) bytes == 1
    && not (starts_with nat_eq bytes (codes "@")) && not (ends_with nat_eq bytes (codes "@"))

-- Whether each `:` (58) is inside brackets. The flag says whether a `[` (91) is open, which the next `]` (93) closes;
-- one that is never closed runs to the end.
abbrev pub has_inner_colons : Bool → List ℕ → Bool
has_inner_colons inside [] = true
has_inner_colons inside (b ∷ bs) =
    (inside || not (b == 58)) && has_inner_colons (b == 91 || inside && not (b == 93)) bs

-- 3 to 254 bytes: a path holds 256 with its angle brackets (RFC 5321, section 4.5.3.1.3)
abbrev pub is_addr : List ℕ → Bool
is_addr bytes =
    nat_le 3 (length bytes) && nat_le (length bytes) 254 && list_all is_addr_byte bytes
    && has_inner_at bytes && has_inner_colons false bytes
