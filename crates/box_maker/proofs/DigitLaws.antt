-- Numbers in two digits.
use Rattle.std.proofs.Common.{◌≡◌, ℕ, ◌<◌, ◌≤◌, ◌-◌, ◌^◌, ◌/◌, ◌%◌, inl, inr, arith, refl}
use Rattle.std.specs.Fmt.{char_count, format_spec, padded_integral, styled_decimal}
use Rattle.std.proofs.lemmas.Bool.{cases_lt}
use Rattle.std.proofs.lemmas.Fmt.{decimal_digit, decimal_step}
use Rattle.box_maker.specs.Mails.{two_digits}

-- what `{:02}` writes of a number below 10: a zero stands before its digit
below_ten : (n : ℕ) → n < 10 → styled_decimal (format_spec 32 0 4 2 (2 ^ 64 - 1)) n ≡ two_digits n
unfolding padded_integral two_digits char_count
below_ten n small =
    let tens : n / 10 ≡ 0 = omega arith in
    let ones : n % 10 ≡ n = omega arith in
    rw (decimal_digit n small, tens, ones) refl

-- of one from 10 on: its digits alone
from_ten : (n : ℕ) → 10 ≤ n → n < 100 → styled_decimal (format_spec 32 0 4 2 (2 ^ 64 - 1)) n ≡ two_digits n
unfolding padded_integral two_digits char_count
from_ten n large small =
    rw (decimal_step n large (omega arith), decimal_digit (n / 10) (omega arith)) refl

-- what `{:02}` writes of a number below 100
pub padded-two : (n : ℕ) → n < 100 → styled_decimal (format_spec 32 0 4 2 (2 ^ 64 - 1)) n ≡ two_digits n
padded-two n small = elim (cases_lt n 10) [ inl below ↦ below_ten n below | inr from ↦ from_ten n from small ]
