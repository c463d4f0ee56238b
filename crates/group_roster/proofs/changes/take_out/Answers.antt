use Rattle.std.proofs.Common.{sym, ap, ◌∙◌, subst, ◌++◌}
use Rattle.group_roster.specs.Setters.{RestsOn, setters_taken, stays_without}
use Rattle.group_roster.proofs.Founded.{rests_without}
use Rattle.group_roster.proofs.changes.take_out.Goals as goal

pub returns-clause-stands : goal.returns-clause-stands
returns-clause-stands c is me roster before after a at_spot some order rests =
    let key = c.args.key.now in
    let s = c.args.setters.now in
    let now = rests_without me key before a after roster s order some rests (ap (stays_without key s) at_spot ∙ sym c.follow_out.ensures.says ∙ is) in
    subst (RestsOn me key (before ++ after) roster) (ap (setters_taken key s) at_spot ∙ sym (c.follow_out.ensures.taken is)) now
