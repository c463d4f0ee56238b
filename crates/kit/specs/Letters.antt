-- ASCII letters, whose case does not count in a name (RFC 5234, section 2.3).
use Rattle.std.specs.Prelude.{ℕ, Bool, List, map, bytes_eq}
use Rattle.std.specs.Char.{to_ascii_lowercase}

-- the bytes, each capital letter as its small one
abbrev pub lowered : List ℕ → List ℕ
lowered bytes = map to_ascii_lowercase bytes

-- alike but for the case of letters
abbrev pub same_name : List ℕ → List ℕ → Bool
same_name a b = bytes_eq (lowered a) (lowered b)
