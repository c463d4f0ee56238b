-- White space inside a line (RFC 5234, appendix B.1).
use Rattle.std.specs.Prelude.{ℕ, ◌-◌, Bool, ◌||◌, ◌==◌, List, length, take, drop}
use Rattle.std.specs.List.{list_all, prefix_len, suffix_len}

-- space (32) and tab (9)
abbrev pub is_white : ℕ → Bool
is_white b = b == 32 || b == 9

-- each byte is white space
abbrev pub is_blank : List ℕ → Bool
is_blank bytes = list_all is_white bytes

abbrev pub trim_start : List ℕ → List ℕ
trim_start bytes = drop (prefix_len is_white bytes) bytes

abbrev pub trim_end : List ℕ → List ℕ
trim_end bytes = take (length bytes - suffix_len is_white bytes) bytes

-- without white space at either end
abbrev pub trim : List ℕ → List ℕ
trim bytes = trim_end (trim_start bytes)
