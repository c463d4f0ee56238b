use Rattle.std.proofs.Common.{refl}
use Rattle.chatlist.specs.Dates.{padded}
use Rattle.chatlist.proofs.dates.Dates.new.Goals as goal

pub returns : goal.returns
unfolding padded
returns c = refl
