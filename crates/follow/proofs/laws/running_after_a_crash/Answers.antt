use Rattle.follow.proofs.Crashes.{run_after_a_crash}
use Rattle.follow.proofs.laws.running_after_a_crash.Goals as goal

pub returns : goal.returns
returns g c = run_after_a_crash (g.H.Shelf.may_leave c.args.shelf.now)
