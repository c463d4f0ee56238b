-- Numbers in decimal digits.
use Rattle.std.specs.Prelude.{ℕ, ◌&&◌, nat_le, if◌then◌else◌, List, length, Option, Some, None}
use Rattle.std.specs.List.{list_all}
use Rattle.std.specs.Char.{is_ascii_digit}
use Rattle.std.specs.Str.Parse.{digits_value}

-- the number that the bytes write, if they are at least `least` digits and at most `most`, leading zeros included
abbrev pub number : ℕ → ℕ → List ℕ → Option ℕ
number least most bytes =
    if nat_le least (length bytes) && nat_le (length bytes) most && list_all is_ascii_digit bytes
    then Some (digits_value 10 bytes) else None
