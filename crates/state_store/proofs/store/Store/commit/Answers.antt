use Rattle.std.proofs.Common.{◌≡◌, Ok, refl}
use Rattle.outside.proofs.Known.{known_as}
use Rattle.mailbox_model.specs.Lists.{Bytes}
use Rattle.state_store.specs.States.{State}
use Rattle.state_store.specs.Stands.{stands}
use Rattle.state_store.specs.Commits.{Commits}
use Rattle.state_store.proofs.Committing.{later}
use Rattle.state_store.proofs.store.Store.commit.Goals as goal

pub save_state-requires-clause-later : goal.save_state-requires-clause-later
save_state-requires-clause-later g c places is =
    let new : State = record { mailbox = c.args.mailbox.now.mailbox; position = c.args.position } in
    later c.args.mailbox.now.mailbox.me new c.args.pending.now.count c.args.pending.now.bytes places (c.requires.leads places is) (c.requires.stored places is).ends

pub returns-in_err-save_state-clause-any_moment : goal.returns-in_err-save_state-clause-any_moment
returns-in_err-save_state-clause-any_moment g c = c.save_state.ensures.any_moment c.args.mailbox.now.mailbox.me

pub returns-then-is_due-clause-any_moment : goal.returns-then-is_due-clause-any_moment
returns-then-is_due-clause-any_moment g c = c.save_state.ensures.any_moment c.args.mailbox.now.mailbox.me

pub returns-then-is_due-clause-lasting : goal.returns-then-is_due-clause-lasting
returns-then-is_due-clause-lasting g c =
    let seen = g.H.Shelf.seen in
    let me = c.args.mailbox.now.mailbox.me in
    let new : State = record { mailbox = c.args.mailbox.now.mailbox; position = c.args.position } in
    known_as (seen c.args.shelf.now) (seen c.save_state.new.shelf) (λ x y. (by : Bytes) → stands by y ≡ Ok new) (λ x y. stands me y ≡ Ok new) (λ x y is h. h me)
    c.in_ok-save_state.ensures.lasting

pub append_pending-requires-clause-leads : goal.append_pending-requires-clause-leads
append_pending-requires-clause-leads g c places is =
    let new : State = record { mailbox = c.args.mailbox.now.mailbox; position = c.args.position } in
    (c.args.mailbox.now.mailbox.me, new, refl, c.requires.leads places is)

pub returns-in_err-append_pending-clause-any_moment : goal.returns-in_err-append_pending-clause-any_moment
returns-in_err-append_pending-clause-any_moment g c places is =
    let new : State = record { mailbox = c.args.mailbox.now.mailbox; position = c.args.position } in
    c.append_pending.ensures.any_moment places is c.args.mailbox.now.mailbox.me new refl (c.requires.leads places is)

pub returns-clause-any_moment : goal.returns-clause-any_moment
returns-clause-any_moment g c places is =
    let new : State = record { mailbox = c.args.mailbox.now.mailbox; position = c.args.position } in
    c.append_pending.ensures.any_moment places is c.args.mailbox.now.mailbox.me new refl (c.requires.leads places is)

pub returns-clause-lasting : goal.returns-clause-lasting
returns-clause-lasting g c =
    let seen = g.H.Shelf.seen in
    let me = c.args.mailbox.now.mailbox.me in
    let new : State = record { mailbox = c.args.mailbox.now.mailbox; position = c.args.position } in
    let p = c.args.pending.now in
    known_as (seen c.args.shelf.now) (seen c.append_pending.new.shelf) (λ x y. (by : Bytes) (to : State) → to.position ≡ c.args.position → Commits by to p.count p.bytes x → stands by y ≡ Ok to)
    (λ x y. stands me y ≡ Ok new) (λ x y is h. h me new refl (c.requires.leads x is)) c.in_ok-append_pending.ensures.lasting
