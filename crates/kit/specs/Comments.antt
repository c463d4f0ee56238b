-- Quoted-pairs and comments (RFC 5322, sections 3.2.1 and 3.2.2).
use Rattle.std.specs.Prelude.{ℕ, ◌+◌, ◌-◌, Bool, not, ◌&&◌, ◌==◌, if◌then◌else◌}

-- whether the next byte is the second of a quoted-pair: after a backslash (92) it is, unless that is a second one itself
abbrev pub begins_quoted_pair : Bool → ℕ → Bool
begins_quoted_pair escaped b = not escaped && b == 92

-- How many comments are open after a byte, if so many are open before it: `(` (40) opens one and `)` (41) closes one,
-- unless the byte is the second of a quoted-pair.
abbrev pub depth_after : ℕ → Bool → ℕ → ℕ
depth_after depth escaped b =
    if escaped then depth else if b == 40 then depth + 1 else if b == 41 then depth - 1 else depth
