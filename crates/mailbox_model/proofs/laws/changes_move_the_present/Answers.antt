use Rattle.mailbox_model.proofs.StillLaws.{nothing_stays}
use Rattle.mailbox_model.proofs.TurnLaws.{turn_law}
use Rattle.mailbox_model.proofs.laws.changes_move_the_present.Goals as goal

pub returns-clause-moves : goal.returns-clause-moves
returns-clause-moves c = λ m change k. turn_law m change k.uids

pub returns-clause-nothing : goal.returns-clause-nothing
returns-clause-nothing c = nothing_stays
