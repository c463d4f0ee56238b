use Rattle.follower.proofs.Resuming.{changes_go_on}
use Rattle.follower.proofs.laws.changes_go_on.Goals as goal

pub returns : goal.returns
returns c = changes_go_on
