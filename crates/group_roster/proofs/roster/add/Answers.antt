use Rattle.std.proofs.Common.{◌≡◌, ap, ◌∙◌}
use Rattle.group_roster.specs.Standing.{roster_with}
use Rattle.group_roster.proofs.Folds.{roster_more}
use Rattle.group_roster.proofs.roster.add.Goals as goal

pub returns-clause-stands : goal.returns-clause-stands
returns-clause-stands c cards is =
    let me = c.args.me.now in
    let key = c.args.key.now in
    let card = c.args.card.now in
    let step : c.in_ok-roster.field-0 ≡ roster_with me key c.args.roster.now card = rw c.if-roster.false c.in_ok-roster.ensures in
    step ∙ ap (λ r. roster_with me key r card) is ∙ roster_more me key cards card
