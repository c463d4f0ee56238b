-- Cutting bytes in two.
use Rattle.std.specs.Prelude.{ℕ, ◌+◌, ◌==◌, nat_eq, if◌then◌else◌, List, length, take, drop, position, Option, Some, None, option_map}
use Rattle.std.specs.List.{starts_with}

-- what precedes the byte at an index, and what follows it
abbrev pub parts_at : List ℕ → ℕ → List ℕ × List ℕ
parts_at bytes at = (take at bytes, drop (at + 1) bytes)

-- the parts at the first byte that is the one wanted
abbrev pub split_once : List ℕ → ℕ → Option (List ℕ × List ℕ)
split_once bytes wanted = option_map (parts_at bytes) (position (λ b. b == wanted) bytes)

-- what follows a prefix
abbrev pub strip_prefix : List ℕ → List ℕ → Option (List ℕ)
strip_prefix bytes prefix = if starts_with nat_eq bytes prefix then Some (drop (length prefix) bytes) else None
