use Rattle.std.proofs.Common.{rules, ◌≡◌, ◌-◌, ◌∙◌, length, Some}
use Rattle.std.specs.Prelude.{slice_get}
use Rattle.compose.proofs.Endings.{last_space}
use Rattle.compose.proofs.refusals.ends_in_space.Goals as goal

pub returns-in-Some : goal.returns-in-Some
returns-in-Some c =
    let text = c.args.text.now in
    let there : slice_get text (length text - 1) ≡ Some c.in-Some.last.now = search rules in
    c.is_space.ensures ∙ last_space text c.in-Some.last.now there
