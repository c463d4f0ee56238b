use Rattle.std.proofs.Common.{◌≡◌, false, nat_eq, sym, refl, ◌∙◌}
use Rattle.std.specs.Prelude.{codes}
use Rattle.std.specs.List.{ends_with}
use Rattle.std.proofs.lemmas.Str.Pattern.{ends_text}
use Rattle.flowed_text.proofs.quoted.is_soft.Goals as goal

pub returns-else-ends_with : goal.returns-else-ends_with
returns-else-ends_with c =
    let ends = ends_text c.ends_with.result (codes " ") c.args.text.now c.ends_with.ensures.cases in
    let no : ends_with nat_eq c.args.text.now (codes " ") ≡ false = sym ends ∙ c.if-ends_with.false in
    rw (c.if-ends_with.false, no) refl
