-- Numbers of up to 20 digits, as `parse` reads them.
use Rattle.std.proofs.Common.{◌≡◌, ℕ, ◌≤◌, ◌<◌, ◌^◌, true, List, ◌∷◌, length, arith, refl, Result, Ok, Err}
use Rattle.std.specs.Char.{is_ascii_digit}
use Rattle.std.specs.List.{list_all}
use Rattle.std.specs.Int.{IsInRange}
use Rattle.std.specs.Result.{OkIff, result_ok}
use Rattle.std.specs.Str.Parse.{ParsesUnsigned, digits_value}
use Rattle.std.proofs.lemmas.Str.Parse.{IsDigitsTest, numerals_by_value, parse_digits}
use Rattle.follow.specs.Words.{trial_of}

first_digit : (c : ℕ) (cs : List ℕ) → list_all is_ascii_digit (c ∷ cs) ≡ true → IsInRange 48 57 c × (list_all is_ascii_digit cs ≡ true)
first_digit c cs e = grind arith

digit_before : (c : ℕ) (cs : List ℕ) → IsInRange 48 57 c → list_all is_ascii_digit cs ≡ true → list_all is_ascii_digit (c ∷ cs) ≡ true
digit_before c cs k e = grind arith

digits_test : IsDigitsTest (λ ds. list_all is_ascii_digit ds ≡ true)
digits_test = record { empty = refl; parts = first_digit; more = digit_before }

known : {E : Type 0} (word : List ℕ) (r : Result ℕ E) → list_all is_ascii_digit word ≡ true → length word ≤ 20
    → OkIff r ((0 < length word) × (digits_value 10 word < 2 ^ 64)) (digits_value 10 word) → result_ok r ≡ trial_of word
known word (Ok n) digits short is = grind arith
known word (Err e) digits short is = grind arith

pub trial_known : {E : Type 0} (word : List ℕ) (r : Result ℕ E) → list_all is_ascii_digit word ≡ true → length word ≤ 20
    → ParsesUnsigned 64 10 word r → result_ok r ≡ trial_of word
trial_known word r digits short is = known word r digits short (parse_digits (numerals_by_value _ digits_test) 64 word r is digits)
