-- The bytes that a reader passes on its way to the next LF (10).
use Rattle.std.specs.Prelude.{◌≡◌, ℕ, ◌+◌, Bool, true, false, ◌==◌, List, length}
use Rattle.std.specs.List.{position_or_len}

-- where the first LF is, or the length where there is none
abbrev pub lf_at : List ℕ → ℕ
lf_at bytes = position_or_len (λ b. b == 10) bytes

abbrev pub HasNoLf : List ℕ → Type 0
HasNoLf bytes = lf_at bytes ≡ length bytes

-- at true, bytes of which the last is their one LF, and at false, bytes without an LF
abbrev pub IsLineAt : Bool → List ℕ → Type 0
IsLineAt true bytes = lf_at bytes + 1 ≡ length bytes
IsLineAt false bytes = HasNoLf bytes
