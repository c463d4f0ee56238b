use Rattle.std.proofs.Common.{◌≡◌, Ok, refl, sym, ◌∙◌, ap, subst, arith}
use Rattle.outside.proofs.Known.{known_as}
use Rattle.mailbox_model.specs.Mailbox.{Mailbox}
use Rattle.state_store.specs.States.{State}
use Rattle.state_store.specs.Stands.{stands}
use Rattle.state_store.specs.Stored.{IsStored}
use Rattle.keeper.specs.Keeping.{Keeping, IsKept}
use Rattle.keeper.proofs.Keeping.{commits, kept_again, make_batch, none_left, stands_already}
use Rattle.keeper.proofs.keeper.Keeper.commit.Goals as goal

pub returns-then-count-eq0-clause-lasting : goal.returns-then-count-eq0-clause-lasting
returns-then-count-eq0-clause-lasting g c =
    let none : c.args.self.now.pending.count ≡ 0 = ap (λ (k : Keeping). k.pending.count) (sym c.self.view_is) ∙ sym c.count.ensures.value ∙ c.if-count-eq0.true in
    stands_already c.args.self.now (g.H.Shelf.seen c.args.shelf.now) none c.requires.kept

pub returns-then-count-eq0-clause-pending : goal.returns-then-count-eq0-clause-pending
returns-then-count-eq0-clause-pending g c =
    ap (λ (k : Keeping). k.pending) (sym c.self.view_is) ∙ none_left c.self.inside.pending c.count.ensures.written (sym c.count.ensures.value ∙ c.if-count-eq0.true)

pub commit-requires-clause-stored : goal.commit-requires-clause-stored
commit-requires-clause-stored g c places is =
    subst (λ (k : Keeping). IsStored k.store (g.H.Shelf.may_leave c.args.shelf.now) places) (sym c.self.view_is) (c.requires.stored places is)

pub commit-requires-clause-batch : goal.commit-requires-clause-batch
commit-requires-clause-batch g c =
    let inside = c.self.inside in
    let k : Keeping = record { state = record { mailbox = inside.engine.mailbox; position = inside.position }; pending = inside.pending; store = inside.store; stale = inside.engine.stale } in
    make_batch k k.pending.count k.pending.bytes refl refl c.count.ensures.written (omega (arith, c.if-count-eq0.false, c.count.ensures.value))
    c.self.invariant.0 c.self.invariant.1 c.has_offsets.ensures.mbox c.has_offsets.ensures.steps c.has_offsets.ensures.mbox_trace c.has_offsets.ensures.steps_trace

pub commit-requires-clause-leads : goal.commit-requires-clause-leads
commit-requires-clause-leads g c places is =
    let inside = c.self.inside in
    let k : Keeping = record { state = record { mailbox = inside.engine.mailbox; position = inside.position }; pending = inside.pending; store = inside.store; stale = inside.engine.stale } in
    commits k k.pending.count k.pending.bytes refl refl c.count.ensures.written (omega (arith, c.if-count-eq0.false, c.count.ensures.value))
    c.self.invariant.0 c.self.invariant.1 c.has_offsets.ensures.mbox c.has_offsets.ensures.steps c.has_offsets.ensures.mbox_trace c.has_offsets.ensures.steps_trace c.mailbox-mailbox.result.now.mailbox places c.mailbox-mailbox.ensures
    (subst (λ (k : Keeping). IsKept k places) (sym c.self.view_is) (c.requires.kept places is))

pub invariant_of-self : goal.invariant_of-self
invariant_of-self g c = (omega (arith, c.commit.ensures.fewer, c.self.invariant.0), c.self.invariant.1)

pub returns-clause-lasting : goal.returns-clause-lasting
returns-clause-lasting g c =
    let old = g.H.Shelf.seen c.args.shelf.now in
    let new = g.H.Shelf.seen c.commit.new.shelf in
    let s : State = record { mailbox = c.mailbox-mailbox.result.now.mailbox; position = c.self.inside.position } in
    let same : s ≡ c.args.self.now.state = ap (λ (m : Mailbox). record { mailbox = m; position = c.self.inside.position }) c.mailbox-mailbox.ensures ∙ ap (λ (k : Keeping). k.state) c.self.view_is in
    known_as old new (λ x y. stands s.mailbox.me y ≡ Ok s) (λ x y. stands c.args.self.now.state.mailbox.me y ≡ Ok c.args.self.now.state)
    (λ x y is h. subst (λ (t : State). stands t.mailbox.me y ≡ Ok t) same h) c.in_ok-commit.ensures.lasting

pub returns-clause-kept : goal.returns-clause-kept
returns-clause-kept g c =
    let inside = c.self.inside in
    let old = g.H.Shelf.seen c.args.shelf.now in
    let new = g.H.Shelf.seen c.commit.new.shelf in
    let s : State = record { mailbox = c.mailbox-mailbox.result.now.mailbox; position = inside.position } in
    let k : Keeping = record { state = record { mailbox = inside.engine.mailbox; position = inside.position }; pending = c.commit.new.pending; store = c.commit.new.self; stale = inside.engine.stale } in
    let same : s ≡ k.state = ap (λ (m : Mailbox). record { mailbox = m; position = inside.position }) c.mailbox-mailbox.ensures in
    kept_again k old new c.in_ok-commit.ensures.none (known_as old new (λ x y. stands s.mailbox.me y ≡ Ok s) (λ x y. stands k.state.mailbox.me y ≡ Ok k.state)
    (λ x y is h. subst (λ (t : State). stands t.mailbox.me y ≡ Ok t) same h) c.in_ok-commit.ensures.lasting)
