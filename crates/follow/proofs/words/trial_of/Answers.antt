use Rattle.std.proofs.Common.{◌∙◌, ap, sym, ◌≤◌, ◌≡◌, length, arith, true}
use Rattle.std.specs.Char.{is_ascii_digit}
use Rattle.std.specs.List.{list_all}
use Rattle.follow.specs.Words.{trial_of}
use Rattle.follow.proofs.TrialNumbers.{trial_known}
use Rattle.follow.proofs.words.trial_of.Goals as goal

pub returns : goal.returns
returns c =
    let digits : list_all is_ascii_digit c.as_str-word.result.now ≡ true = ap (list_all is_ascii_digit) (sym c.as_bytes.ensures.value) ∙ sym c.are_digits.ensures ∙ c.if-not-are_digits.false in
    let short : length c.as_str-word.result.now ≤ 20 = omega (arith, c.if-word-gt20.false) in
    c.ok.ensures.value ∙ trial_known _ _ digits short c.parse.ensures.value.0 ∙ ap trial_of c.as_str-word.ensures
