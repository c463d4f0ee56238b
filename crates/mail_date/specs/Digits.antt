-- Numbers in decimal digits, up to a last one.
use Rattle.std.specs.Prelude.{ℕ, nat_le, if◌then◌else◌, List, Option, Some, None}
use Rattle.kit.specs.Numbers.{number}
use Rattle.kit.specs.Options.{◌>>=◌}

-- the number of 1 or 2 digits, if it is no greater than the last one
abbrev pub number_to : ℕ → List ℕ → Option ℕ
number_to last digits = number 1 2 digits >>= λ n. if nat_le n last then Some n else None
