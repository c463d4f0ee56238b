-- Numbers that grow by a digit.
use Rattle.std.proofs.Common.{◌≡◌, ℕ, ◌+◌, ◌-◌, ◌*◌, ◌^◌, ◌<◌, ◌≤◌, true, List, length, get_or, take, arith, lit<}
use Rattle.std.specs.Char.{is_ascii_digit}
use Rattle.std.specs.Str.Parse.{digits_value}
use Rattle.std.proofs.Math.Nat.{pow-le-pow_right}
use Rattle.std.proofs.lemmas.Grind.{pow_more}
use Rattle.std.proofs.lemmas.Int.Digits.{digits_value_more}
use Rattle.std.proofs.lemmas.Str.{digit_value_digit}

digit_bounds : (c : ℕ) → is_ascii_digit c ≡ true → (48 ≤ c) × (c ≤ 57)
digit_bounds c h = grind arith

pub power_le : (i k : ℕ) → i ≤ k → 10 ^ i ≤ 10 ^ k
power_le i k le = pow-le-pow_right (lit< tt) le

-- what a digit more gives
pub digit_more : (digits : List ℕ) (i n : ℕ) → i < length digits → n ≡ digits_value 10 (take i digits) → n < 10 ^ i → is_ascii_digit (get_or digits i 0) ≡ true → (10 * n + (get_or digits i 0 - 48) ≡ digits_value 10 (take (i + 1) digits)) × (10 * n + (get_or digits i 0 - 48) < 10 ^ (i + 1))
digit_more digits i n lt value bound digit =
    let bounds = digit_bounds (get_or digits i 0) digit in
    let one = pow_more 10 i in
    (omega (arith, digits_value_more 10 digits i lt, digit_value_digit (get_or digits i 0) bounds), omega arith)
