use Rattle.std.proofs.Common.{sym, ◌∙◌, subst, ◌∷◌, ◌++◌}
use Rattle.group_roster.specs.Setters.{RestsOn, at}
use Rattle.group_roster.proofs.Clauses.{both_clauses}
use Rattle.group_roster.proofs.Founded.{rests_with}
use Rattle.group_roster.proofs.changes.put_in.Goals as goal

pub returns-clause-stands : goal.returns-clause-stands
returns-clause-stands c =
    both_clauses c.follow_in.result _ _ _
    (λ stays says put is me before after order rests.
    subst (RestsOn me c.args.key.now (before ++ at c.args.spot.now c.args.card.now ∷ after) c.args.roster.now) (sym (put is))
    (rests_with me c.args.key.now before (at c.args.spot.now c.args.card.now) after c.args.roster.now c.args.setters.now order rests (sym says ∙ is)))
    c.follow_in.ensures.says c.follow_in.ensures.put
