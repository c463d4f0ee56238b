use Rattle.std.proofs.Common.{◌≡◌, slice_index_or, true}
use Rattle.std.specs.Char.{is_ascii_digit}
use Rattle.std.proofs.lemmas.List.Folds.{list_all_more}
use Rattle.kit.proofs.DigitLemmas.{digit_more}
use Rattle.kit.proofs.digits.number.Goals as goal

pub loop-digit-preserved : goal.loop-digit-preserved
loop-digit-preserved c =
    let i = c.loop-digit.digit-index in
    let before = c.loop-digit.invariant in
    let digit : is_ascii_digit (slice_index_or c.args.digits.now i 0) ≡ true = cc c.is_ascii_digit.ensures.value in
    let more = digit_more c.args.digits.now i c.loop-digit.number c.loop-digit-test.true before.value before.bound digit in
    record {
      all_digits = rw (list_all_more is_ascii_digit c.args.digits.now i 0 c.loop-digit-test.true, before.all_digits) digit;
      value = rw c.from.ensures more.0;
      bound = rw c.from.ensures more.1;
    }
