use Rattle.follow.proofs.Crashes.{kept_changes_stay}
use Rattle.follow.proofs.laws.kept_changes_stay.Goals as goal

pub returns : goal.returns
returns g c = kept_changes_stay (g.H.Shelf.may_leave c.args.shelf.now)
