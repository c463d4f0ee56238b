use Rattle.touched_chats.proofs.Rebuilding.{build_after, build_after_all}
use Rattle.touched_chats.proofs.laws.building_later_fits_the_cost.Goals as goal

pub returns-clause-change : goal.returns-clause-change
returns-clause-change c = build_after

pub returns-clause-changes : goal.returns-clause-changes
returns-clause-changes c = build_after_all
