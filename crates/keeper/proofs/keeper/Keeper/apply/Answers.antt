use Rattle.std.proofs.Common.{◌≡◌, ◌≤◌, ◌+◌, false, ◌∙◌, ap, subst}
use Rattle.mailbox_model.specs.Mailbox.{Mailbox, after, full}
use Rattle.state_store.specs.States.{State}
use Rattle.touched_chats.specs.Costs.{change_cost}
use Rattle.keeper.specs.Keeping.{Keeping, after_change}
use Rattle.tail_journal.specs.Pending.{with_change}
use Rattle.keeper.proofs.Keeping.{kept_more}
use Rattle.keeper.proofs.keeper.Keeper.apply.Goals as goal

pub returns-clause-kept : goal.returns-clause-kept
returns-clause-kept g c places =
    let old = c.args.self.now in
    let change = c.args.change in
    let position = c.args.position in
    let s : State = record { mailbox = c.make.new.engine.mailbox; position = position } in
    let new : Keeping = record { state = s; pending = c.push.new.self; store = c.self.inside.store; stale = c.make.new.engine.stale } in
    let mailbox : s.mailbox ≡ after old.state.mailbox change = c.in_ok-make.ensures.mailbox ∙ ap (λ (k : Keeping). after k.state.mailbox change) c.self.view_is in
    let state : s ≡ after_change old.state change position = ap (λ (m : Mailbox). record { mailbox = m; position = position }) mailbox in
    let room : full old.state.mailbox change ≡ false = subst (λ (k : Keeping). full k.state.mailbox change ≡ false) c.self.view_is c.in_ok-make.ensures.room in
    kept_more old new change position places state (c.in_ok-push.ensures.ok ∙ ap (λ (k : Keeping). with_change k.pending change) c.self.view_is)
    c.requires.count c.requires.valid c.in_ok-push.ensures.fits room

pub returns-in_err-make-clause-cost : goal.returns-in_err-make-clause-cost
returns-in_err-make-clause-cost g c =
    subst (λ (k : Keeping). c.make.new.steps ≤ c.args.steps.now + change_cost k.state.mailbox c.args.change) c.self.view_is c.in_err-make.ensures.cost

pub returns-clause-cost : goal.returns-clause-cost
returns-clause-cost g c =
    subst (λ (k : Keeping). c.make.new.steps ≤ c.args.steps.now + change_cost k.state.mailbox c.args.change) c.self.view_is c.in_ok-make.ensures.cost
