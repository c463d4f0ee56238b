use Rattle.follow.proofs.Rest.{the_rest}
use Rattle.follow.proofs.laws.following_the_rest.Goals as goal

pub returns : goal.returns
returns c = the_rest
