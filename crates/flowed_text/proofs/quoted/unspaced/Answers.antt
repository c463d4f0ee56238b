use Rattle.std.proofs.Common.{ap, ◌∙◌, arith}
use Rattle.std.proofs.lemmas.Str.Pattern.{strip_suffix_char}
use Rattle.flowed_text.proofs.EndLemmas.{unspaced-from_strip}
use Rattle.flowed_text.proofs.quoted.unspaced.Goals as goal

pub returns : goal.returns
returns c =
    let text = c.args.text in
    let found = strip_suffix_char 32 text.now c.strip_suffix.result c.strip_suffix.ensures.cases (omega arith) in
    ap (λ r. r.now) c.unwrap_or.ensures ∙ unspaced-from_strip text c.strip_suffix.result found
