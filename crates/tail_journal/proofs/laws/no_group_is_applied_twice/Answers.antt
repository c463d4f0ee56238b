use Rattle.tail_journal.proofs.JointLaw.{none_counts}
use Rattle.tail_journal.proofs.laws.no_group_is_applied_twice.Goals as goal

pub returns : goal.returns
returns c = none_counts
