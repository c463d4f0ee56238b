use Rattle.std.proofs.Common.{drop, None, sym, ap, ◌∙◌, arith}
use Rattle.std.proofs.lemmas.Str.Pattern.{strip_prefix_char}
use Rattle.flowed_text.specs.Flowed.{unstuffed}
use Rattle.flowed_text.proofs.EndLemmas.{depth_none}
use Rattle.flowed_text.proofs.quoted.quoted_line.Goals as goal

pub returns-clause-depth : goal.returns-clause-depth
returns-clause-depth c =
    let text = c.loop-rest.text.now in
    let none = depth_none text (strip_prefix_char 62 text None c.in_default.ensures.cases (omega arith)) in
    omega (arith, none, c.loop-rest.invariant.depth)

pub returns-clause-text : goal.returns-clause-text
returns-clause-text c =
    let text = c.loop-rest.text.now in
    let none = depth_none text (strip_prefix_char 62 text None c.in_default.ensures.cases (omega arith)) in
    c.unstuffed.ensures ∙ ap unstuffed (sym (ap (λ n. drop n text) none) ∙ c.loop-rest.invariant.rest)
