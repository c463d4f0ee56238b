use Rattle.std.proofs.lemmas.Result.{err_from_is_err_and}
use Rattle.follower.proofs.Turning.{keep_kind}
use Rattle.follower.proofs.follower.Follower.open.Goals as goal

pub returns-in_err-keeper-clause-possible : goal.returns-in_err-keeper-clause-possible
returns-in_err-keeper-clause-possible g c =
    let p = err_from_is_err_and c.from_residual.result c.from_residual.ensures.1 in
    rw (p.1, p.2) (keep_kind c.in_err-keeper.field-0.0 c.in_err-keeper.ensures.not_full)

pub returns-in_err-new-clause-opens : goal.returns-in_err-new-clause-opens
returns-in_err-new-clause-opens g c _ _ =
    let p = err_from_is_err_and c.from_residual-in_err-new.result c.from_residual-in_err-new.ensures.1 in
    rw (p.1, p.2) tt

pub returns-in_err-new-clause-other : goal.returns-in_err-new-clause-other
returns-in_err-new-clause-other g c =
    let p = err_from_is_err_and c.from_residual-in_err-new.result c.from_residual-in_err-new.ensures.1 in
    rw (p.1, p.2) tt

pub returns-in_err-new-clause-possible : goal.returns-in_err-new-clause-possible
returns-in_err-new-clause-possible g c =
    let p = err_from_is_err_and c.from_residual-in_err-new.result c.from_residual-in_err-new.ensures.1 in
    rw (p.1, p.2) tt

pub returns-in_err-new-2-clause-opens : goal.returns-in_err-new-2-clause-opens
returns-in_err-new-2-clause-opens g c _ _ =
    let p = err_from_is_err_and c.from_residual-in_err-new-2.result c.from_residual-in_err-new-2.ensures.1 in
    rw (p.1, p.2) tt

pub returns-in_err-new-2-clause-other : goal.returns-in_err-new-2-clause-other
returns-in_err-new-2-clause-other g c =
    let p = err_from_is_err_and c.from_residual-in_err-new-2.result c.from_residual-in_err-new-2.ensures.1 in
    rw (p.1, p.2) tt

pub returns-in_err-new-2-clause-possible : goal.returns-in_err-new-2-clause-possible
returns-in_err-new-2-clause-possible g c =
    let p = err_from_is_err_and c.from_residual-in_err-new-2.result c.from_residual-in_err-new-2.ensures.1 in
    rw (p.1, p.2) tt
