use Rattle.std.proofs.Common.{subst, ◌≤◌, ◌+◌}
use Rattle.touched_chats.specs.Costs.{change_cost}
use Rattle.engine.proofs.engine.repair_for.Goals as goal

pub returns-in_err-repair_by-clause-cost : goal.returns-in_err-repair_by-clause-cost
returns-in_err-repair_by-clause-cost g c = subst (λ m. c.repair_by.new.steps ≤ c.args.steps.now + change_cost m c.args.change.now) c.prepare.ensures.same c.repair_by.ensures.cost

pub returns-clause-cost : goal.returns-clause-cost
returns-clause-cost g c = subst (λ m. c.repair_by.new.steps ≤ c.args.steps.now + change_cost m c.args.change.now) c.prepare.ensures.same c.repair_by.ensures.cost
