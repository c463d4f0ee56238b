use Rattle.touched_chats.proofs.Ahead.{entries_ahead, spots_ahead, moment_ahead}
use Rattle.touched_chats.proofs.laws.a_change_is_told_ahead.Goals as goal

pub returns-clause-entry : goal.returns-clause-entry
returns-clause-entry c = entries_ahead

pub returns-clause-spot : goal.returns-clause-spot
returns-clause-spot c = spots_ahead

pub returns-clause-now : goal.returns-clause-now
returns-clause-now c = moment_ahead
