use Rattle.std.proofs.Common.{Ok, sym, ◌∙◌, ap, arith}
use Rattle.std.proofs.lemmas.Result.{err_from_is_err_and}
use Rattle.outside.specs.Moments.{WhereKnown}
use Rattle.mailbox_model.specs.Mailbox.{Mailbox}
use Rattle.box_state.specs.Kept.{Kept}
use Rattle.touched_chats.specs.Costs.{build_reads}
use Rattle.state_store.specs.Stored.{state_in}
use Rattle.state_store.specs.Stands.{found_of, stands}
use Rattle.keeper.specs.Keeping.{Keeping}
use Rattle.keeper.specs.Opening.{AllFindSame}
use Rattle.keeper.proofs.Opened.{all_find_same, cause_of, on_other, opened_is_kept, opening_fits, others_stand, own_not_full, state_not_full}
use Rattle.keeper.proofs.keeper.Keeper.open.Goals as goal

pub returns-in_err-store-clause-opens : goal.returns-in_err-store-clause-opens
returns-in_err-store-clause-opens g c places is =
    let p = err_from_is_err_and c.from_residual.result c.from_residual.ensures.1 in
    rw (p.1, p.2) (cause_of c.args.me.now (stands c.args.me.now places) c.in_err-store.field-0.0 (c.in_err-store.ensures.gives places is))

pub returns-in_err-own-clause-other : goal.returns-in_err-own-clause-other
returns-in_err-own-clause-other g c =
    let H = g.H.Shelf in
    let old = H.seen c.args.shelf.now in
    let new = c.open.new.shelf in
    on_other c.from_residual-in_err-own.result (WhereKnown old (AllFindSame (H.may_leave new)))
    (all_find_same old (H.seen new) c.in_ok-store.ensures.same c.in_ok-store.field-0.store (H.may_leave new) c.in_ok-store.ensures.stored)

pub returns-in_err-own-clause-opens : goal.returns-in_err-own-clause-opens
returns-in_err-own-clause-opens g c places is =
    let p = err_from_is_err_and c.from_residual-in_err-own.result c.from_residual-in_err-own.ensures.1 in
    rw (p.1, p.2) (others_stand c.args.me.now (stands c.args.me.now places) (state_in c.in_ok-store.field-0) c.in_err-own.field-0.0 (c.in_ok-store.ensures.gives places is) c.in_err-own.ensures.other)

pub returns-clause-opens : goal.returns-clause-opens
returns-clause-opens g c places is =
    let opened = c.in_ok-store.field-0 in
    let own = c.in_ok-own.ensures.same in
    let mailbox = c.in_ok-engine.ensures.mailbox ∙ ap (λ (k : Kept). k.mailbox) own in (
      c.in_ok-store.ensures.gives places is ∙ ap (λ (m : Mailbox). Ok (record { mailbox = m; position = opened.position })) (sym mailbox),
      ap (λ (m : Mailbox). m.me) c.in_ok-engine.ensures.mailbox ∙ c.in_ok-own.ensures.own,
    )

pub returns-clause-kept : goal.returns-clause-kept
returns-clause-kept g c =
    let H = g.H.Shelf in
    let opened = c.in_ok-store.field-0 in
    let engine = c.in_ok-engine.engine in
    let own = c.in_ok-own.ensures.same in
    let mailbox = c.in_ok-engine.ensures.mailbox ∙ ap (λ (k : Kept). k.mailbox) own in
    let k : Keeping = record { state = record { mailbox = engine.mailbox; position = opened.position }; pending = c.new.result; store = opened.store; stale = engine.stale } in
    opened_is_kept (H.seen c.args.shelf.now) (H.seen c.open.new.shelf) c.in_ok-store.ensures.same c.args.me.now k (state_in opened)
    c.in_ok-store.ensures.gives (ap (λ (k : Kept). k.mailbox.me) (sym own) ∙ c.in_ok-own.ensures.own)
    (ap (λ (m : Mailbox). record { mailbox = m; position = opened.position }) mailbox) c.new.ensures

pub returns-in_err-engine-clause-cost : goal.returns-in_err-engine-clause-cost
returns-in_err-engine-clause-cost g c places is =
    let read = ap (λ (k : Kept). build_reads k.mailbox) c.in_ok-own.ensures.same in
    opening_fits c.args.me.now (found_of places) (state_in c.in_ok-store.field-0) c.args.steps.now c.from_mailbox.new.steps
    (c.in_ok-store.ensures.gives places is) (c.in_ok-store.ensures.comes places is) (omega (arith, read, c.from_mailbox.ensures.reads))

pub returns-clause-cost : goal.returns-clause-cost
returns-clause-cost g c places is =
    let read = ap (λ (k : Kept). build_reads k.mailbox) c.in_ok-own.ensures.same in
    opening_fits c.args.me.now (found_of places) (state_in c.in_ok-store.field-0) c.args.steps.now c.from_mailbox.new.steps
    (c.in_ok-store.ensures.gives places is) (c.in_ok-store.ensures.comes places is) (omega (arith, read, c.from_mailbox.ensures.reads))

pub returns-in_err-store-clause-not_full : goal.returns-in_err-store-clause-not_full
returns-in_err-store-clause-not_full g c =
    let p = err_from_is_err_and c.from_residual.result c.from_residual.ensures.1 in
    rw (p.1, p.2) (state_not_full c.in_err-store.field-0.0)

pub returns-in_err-own-clause-not_full : goal.returns-in_err-own-clause-not_full
returns-in_err-own-clause-not_full g c =
    let p = err_from_is_err_and c.from_residual-in_err-own.result c.from_residual-in_err-own.ensures.1 in
    rw (p.1, p.2) (own_not_full c.args.me.now c.in_ok-store.field-0.mailbox.mailbox c.in_err-own.field-0.0 c.in_err-own.ensures.other)
