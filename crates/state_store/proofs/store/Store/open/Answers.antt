use Rattle.std.proofs.Common.{ℕ, Result, subst, sym}
use Rattle.std.specs.Prelude.{IfOk}
use Rattle.outside.specs.declared.shelf.Place.{Place}
use Rattle.std.proofs.lemmas.Result.{err_from_is_err_and}
use Rattle.state_store.specs.Stands.{Found, ComesOf}
use Rattle.state_store.specs.Stored.{found_in}
use Rattle.state_store.proofs.Finding.{none_stands, not_restored, restored}
use Rattle.state_store.proofs.store.Store.open.Goals as goal

pub returns-in_err-store-clause-gives : goal.returns-in_err-store-clause-gives
returns-in_err-store-clause-gives g c places is =
    let p = err_from_is_err_and c.from_residual.result c.from_residual.ensures.1 in
    rw (p.1, p.2) (none_stands c.args.me.now places c.in_err-store.field-0.0 (c.in_err-store.ensures.gives places is))

pub returns-in_err-mailbox-clause-gives : goal.returns-in_err-mailbox-clause-gives
returns-in_err-mailbox-clause-gives g c places is =
    let p = err_from_is_err_and c.from_residual-in_err-mailbox.result c.from_residual-in_err-mailbox.ensures.1 in
    rw (p.1, p.2) (not_restored c.args.me.now places (found_in c.in_ok-store.field-0) (c.in_ok-store.ensures.gives places is) c.in_err-mailbox.field-0.0 c.in_err-mailbox.ensures.gives)

pub returns-clause-gives : goal.returns-clause-gives
returns-clause-gives g c places is =
    restored c.args.me.now places (found_in c.in_ok-store.field-0) (c.in_ok-store.ensures.gives places is) _ c.in_ok-mailbox.ensures.gives

pub returns-clause-comes : goal.returns-clause-comes
returns-clause-comes g c places is =
    let found = found_in c.in_ok-store.field-0 in
    subst (λ (x : Result Found (Place × ℕ)). IfOk x (λ found. ComesOf c.args.me.now found c.in_ok-mailbox.mailbox.mailbox)) (sym (c.in_ok-store.ensures.gives places is)) c.in_ok-mailbox.ensures.comes
