-- Message ids, without the angle brackets round them (RFC 5322, section 3.6.4).
use Rattle.std.specs.Prelude.{ℕ, Bool, ◌&&◌, not, ◌==◌, nat_le, List, length, codes}
use Rattle.std.specs.List.{list_all, list_any}
use Rattle.std.specs.Char.{is_ascii_graphic}

-- from 33 to 126, and no bracket
abbrev pub is_id_byte : ℕ → Bool
is_id_byte b = is_ascii_graphic b && not (list_any (λ c. c == b) (codes "<>"))

-- 1 to 998 such bytes: no more than a line may hold (RFC 5322, section 2.1.1)
abbrev pub is_id : List ℕ → Bool
is_id bytes = nat_le 1 (length bytes) && nat_le (length bytes) 998 && list_all is_id_byte bytes
