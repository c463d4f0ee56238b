use Rattle.std.proofs.Common.{◌≡◌, ◌-◌, Ok, ◌∙◌, refl}
use Rattle.outside.specs.Places.{Places}
use Rattle.outside.proofs.Known.{known_as}
use Rattle.mailbox_model.specs.Lists.{Bytes}
use Rattle.state_store.specs.States.{State}
use Rattle.state_store.specs.Stands.{stands}
use Rattle.state_store.specs.Commits.{Appends, Commits}
use Rattle.state_store.proofs.Committing.{appends_them}
use Rattle.state_store.proofs.commit.append_pending.Goals as goal

pub append-requires-clause-leads : goal.append-requires-clause-leads
append-requires-clause-leads g c places is =
    let p = c.args.pending.now in
    let leads = c.requires.leads places is in (
      leads.0,
      leads.1,
      appends_them leads.0 leads.1 c.args.position (c.args.position.count - p.count) p.count p.bytes c.deref.result.now places refl (λ held spelled. c.deref.ensures.value ∙ c.seal-group.ensures.text held spelled) leads.2 leads.3,
    )

pub returns-in_err-append-clause-any_moment : goal.returns-in_err-append-clause-any_moment
returns-in_err-append-clause-any_moment g c places is me new same commits =
    let p = c.args.pending.now in
    c.append.ensures.any_moment places is me new
    (appends_them me new c.args.position (c.args.position.count - p.count) p.count p.bytes c.deref.result.now places refl (λ held spelled. c.deref.ensures.value ∙ c.seal-group.ensures.text held spelled) same commits)

pub returns-clause-any_moment : goal.returns-clause-any_moment
returns-clause-any_moment g c places is me new same commits =
    let p = c.args.pending.now in
    c.append.ensures.any_moment places is me new
    (appends_them me new c.args.position (c.args.position.count - p.count) p.count p.bytes c.deref.result.now places refl (λ held spelled. c.deref.ensures.value ∙ c.seal-group.ensures.text held spelled) same commits)

pub returns-clause-lasting : goal.returns-clause-lasting
returns-clause-lasting g c =
    let seen = g.H.Shelf.seen in
    let group = c.deref.result.now in
    let p = c.args.pending.now in
    known_as (seen c.args.shelf.now) (seen c.append.new.shelf) (λ (x y : Places). (me : Bytes) (new : State) → Appends me new x group → stands me y ≡ Ok new)
    (λ (x y : Places). (me : Bytes) (new : State) → new.position ≡ c.args.position → Commits me new p.count p.bytes x → stands me y ≡ Ok new)
    (λ x y is h me new same commits. h me new (appends_them me new c.args.position (c.args.position.count - p.count) p.count p.bytes group x refl (λ held spelled. c.deref.ensures.value ∙ c.seal-group.ensures.text held spelled) same commits))
    c.in_ok-append.ensures.lasting
