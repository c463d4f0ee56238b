use Rattle.std.proofs.Common.{◌≤◌, ◌+◌, subst}
use Rattle.mailbox_model.specs.declared.change.Change.TheVariants.{At}
use Rattle.touched_chats.specs.Costs.{change_cost}
use Rattle.follower.specs.Following.{Following}
use Rattle.follower.proofs.follower.Follower.at.Goals as goal

pub returns-in_err-apply-clause-cost : goal.returns-in_err-apply-clause-cost
returns-in_err-apply-clause-cost g c =
    subst (λ (f : Following). c.apply.new.steps ≤ c.args.steps.now + change_cost f.keeper.state.mailbox (At c.args.moment)) c.self.view_is c.in_err-apply.ensures.cost

pub returns-clause-cost : goal.returns-clause-cost
returns-clause-cost g c =
    subst (λ (f : Following). c.apply.new.steps ≤ c.args.steps.now + change_cost f.keeper.state.mailbox (At c.args.moment)) c.self.view_is c.in_ok-apply.ensures.cost
