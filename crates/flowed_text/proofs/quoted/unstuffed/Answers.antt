use Rattle.std.proofs.Common.{ap, ◌∙◌, arith}
use Rattle.std.proofs.lemmas.Str.Pattern.{strip_prefix_char}
use Rattle.flowed_text.proofs.EndLemmas.{unstuffed-from_strip}
use Rattle.flowed_text.proofs.quoted.unstuffed.Goals as goal

pub returns : goal.returns
returns c =
    let text = c.args.text in
    let found = strip_prefix_char 32 text.now c.strip_prefix.result c.strip_prefix.ensures.cases (omega arith) in
    ap (λ r. r.now) c.unwrap_or.ensures ∙ unstuffed-from_strip text c.strip_prefix.result found
