-- Printing bytes (RFC 5234, appendix B.1).
use Rattle.std.specs.Prelude.{ℕ, Bool, ◌&&◌, nat_le, List, length}
use Rattle.std.specs.List.{list_all}
use Rattle.std.specs.Char.{is_ascii_graphic}

-- one or more visible characters, from 33 to 126
abbrev pub is_visible : List ℕ → Bool
is_visible bytes = nat_le 1 (length bytes) && list_all is_ascii_graphic bytes

-- a visible character or a space
abbrev pub is_printing_byte : ℕ → Bool
is_printing_byte b = nat_le 32 b && nat_le b 126

abbrev pub is_printing : List ℕ → Bool
is_printing bytes = list_all is_printing_byte bytes
