use Rattle.touched_chats.proofs.Refolds.{reads_fit, cost_fits}
use Rattle.touched_chats.proofs.laws.refolds_fit_the_cost.Goals as goal

pub returns-clause-reads : goal.returns-clause-reads
returns-clause-reads c = reads_fit

pub returns-clause-cost : goal.returns-clause-cost
returns-clause-cost c = cost_fits
