-- Ids of groups.
use Rattle.std.specs.Prelude.{ℕ, Bool, ◌&&◌, ◌||◌, ◌==◌, nat_le, List, length}
use Rattle.std.specs.List.{list_all}
use Rattle.std.specs.Char.{is_ascii_alphanumeric}

-- an ASCII letter, a digit, _ (95) or - (45)
abbrev pub is_group_byte : ℕ → Bool
is_group_byte b = is_ascii_alphanumeric b || b == 95 || b == 45

-- 11 to 998 such bytes: no more than a line may hold (RFC 5322, section 2.1.1)
abbrev pub is_group : List ℕ → Bool
is_group bytes = nat_le 11 (length bytes) && nat_le (length bytes) 998 && list_all is_group_byte bytes
