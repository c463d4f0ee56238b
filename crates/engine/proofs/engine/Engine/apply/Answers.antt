use Rattle.std.proofs.Common.{ap, ◌∙◌, subst, ◌≤◌, ◌+◌}
use Rattle.mailbox_model.specs.Mailbox.{Mailbox}
use Rattle.touched_chats.specs.Costs.{change_cost}
use Rattle.engine.specs.Followed.{Followed, IsApplyCause, IsUnrepaired}
use Rattle.engine.proofs.Causes.{cause_of, unmade}
use Rattle.engine.proofs.engine.Engine.apply.Goals.{in-Arrive+in-None-1, in-Arrive+in-Some-1, in-ArriveFault-1}
use Rattle.engine.proofs.engine.Engine.apply.Goals as goal

pub returns-in-Ok-clause-cost : goal.returns-in-Ok-clause-cost
returns-in-Ok-clause-cost g c =
    let cost = subst (λ change. c.repair_for-repaired.new.steps ≤ c.args.steps.now + change_cost c.self.inside.mailbox.mailbox change) c.with_kept_addresses-change.ensures c.repair_for-repaired.ensures.cost in
    subst (λ m. c.repair_for-repaired.new.steps ≤ c.args.steps.now + change_cost m c.args.change) (ap (λ e. e.mailbox) c.self.view_is) cost

pub returns-in-Err-clause-cost : goal.returns-in-Err-clause-cost
returns-in-Err-clause-cost g c =
    let cost = subst (λ change. c.repair_for-repaired.new.steps ≤ c.args.steps.now + change_cost c.self.inside.mailbox.mailbox change) c.with_kept_addresses-change.ensures c.repair_for-repaired.ensures.cost in
    subst (λ m. c.repair_for-repaired.new.steps ≤ c.args.steps.now + change_cost m c.args.change) (ap (λ e. e.mailbox) c.self.view_is) cost

pub returns-in-Err-clause-cause : goal.returns-in-Err-clause-cause
returns-in-Err-clause-cause g c =
    let inside = c.self.inside in
    let old : Followed = record { mailbox = inside.mailbox.mailbox; touched = inside.touched.items; stale = inside.stale } in
    let after = c.repair_for-repaired.new.stale in
    let new : Followed = record { mailbox = c.repair_for-repaired.new.mailbox.mailbox; touched = inside.touched.items; stale = after } in
    let cause = subst (λ change. IsUnrepaired inside.stale inside.mailbox.mailbox change after c.in-Err.fault) c.with_kept_addresses-change.ensures
    (cause_of inside.stale inside.mailbox.mailbox c.with_kept_addresses-change.result after c.repair_for-repaired.result c.in-Err.fault c.in-Err.is c.repair_for-repaired.ensures.cause) in
    let same = ap (λ (m : Mailbox). record old { mailbox = m; stale = after }) c.repair_for-repaired.ensures.same in
    subst (λ e. IsApplyCause e c.args.change c.match-change.self c.in-Err.fault) c.self.view_is
    (elim c.match-change.branch [
      | in-Arrive+in-None-1 w ↦ unmade old c.match-change.self c.args.change after c.in-Err.fault (w.self-is ∙ same) cause
      | in-Arrive+in-Some-1 w ↦ unmade old c.match-change.self c.args.change after c.in-Err.fault (w.self-is ∙ same) cause
      | in-ArriveFault-1 w ↦ unmade old c.match-change.self c.args.change after c.in-Err.fault (w.self-is ∙ same) cause
    ])
