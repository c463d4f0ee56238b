use Rattle.std.proofs.Common.{Err, inl, inr, ap, subst, sym}
use Rattle.std.proofs.lemmas.Result.{err_from_is_err_and}
use Rattle.outside.specs.Moments.{WhereKnown}
use Rattle.outside.proofs.Moments.{and_then}
use Rattle.state_store.specs.Stored.{IsStored}
use Rattle.state_store.specs.declared.store.Store.{Store}
use Rattle.follower.specs.Committing.{Prefix, outset}
use Rattle.follower.specs.Spending.{counts}
use Rattle.follower.proofs.Going.{cause_since, full_caused, moment_filled}
use Rattle.follower.proofs.Rounds.{nothing_leaves}
use Rattle.follow.proofs.Followed.{first_way, moment_costs, moment_made, moment_refused, whole}
use Rattle.follow.proofs.following.follow_mails_to_end.Goals as goal

pub follow_mails-requires-clause-stored : goal.follow_mails-requires-clause-stored
follow_mails-requires-clause-stored g c =
    let H = g.H.Shelf in
    subst (λ (store : Store). WhereKnown (H.seen c.args.shelf.now) (IsStored store (H.may_leave c.args.shelf.now))) (sym c.in_ok-at.ensures.store) c.requires.stored

pub returns-in_err-at-clause-goes : goal.returns-in_err-at-clause-goes
returns-in_err-at-clause-goes g c = λ files rest mails is stands ahead known.
    let H = g.H.Shelf in
    let p = err_from_is_err_and c.from_residual.result c.from_residual.ensures.1 in
    let k = c.args.follower.now.keeper in
    let shelf = c.args.shelf.now in
    let now = counts c.args.steps.now (H.written shelf) in
    let feed = whole files k mails c.args.moment in
    let way = first_way k feed now (H.seen shelf) c.requires.pending known in
    rw (p.1, p.2) (
      nothing_leaves H.moment H.left_since H.seen H.may_leave (outset k now) feed feed k now shelf (g.met.H.Shelf.only_now shelf) way c.requires.stored,
      (moment_refused files k mails c.args.moment now (counts c.at.new.steps (H.written shelf)) (moment_costs files k mails c.args.moment now c.at.new.steps c.in_err-at.ensures.cost) (H.seen shelf) (H.may_leave shelf) c.in_err-at.field-0.0 way c.requires.pending c.requires.stored c.in_err-at.ensures.cause
          (λ e. c.in_err-at.ensures.full (ap Err e))),
    )

pub returns-in_err-follow_mails-clause-goes : goal.returns-in_err-follow_mails-clause-goes
returns-in_err-follow_mails-clause-goes g c = λ files rest mails is stands ahead known.
    let H = g.H.Shelf in
    let p = err_from_is_err_and c.from_residual-in_err-follow_mails.result c.from_residual-in_err-follow_mails.ensures.1 in
    let f = c.args.follower.now in
    let k = f.keeper in
    let shelf = c.args.shelf.now in
    let now = counts c.args.steps.now (H.written shelf) in
    let feed = whole files k mails c.args.moment in
    let made = c.in_ok-at.ensures in
    let on =
    (moment_made files k mails c.args.moment now (counts c.at.new.steps (H.written shelf)) (moment_costs files k mails c.args.moment now c.at.new.steps made.cost) (H.seen shelf) f c.at.new.self (g.M.Source.left c.args.mbox.now) rest is stands ahead made.mbox (first_way k feed now (H.seen shelf) c.requires.pending known) made.room made.state made.pending made.store) in
    rw (p.1, p.2) (c.in_err-follow_mails.ensures.goes files (outset k now) feed on)

pub returns-clause-goes : goal.returns-clause-goes
returns-clause-goes g c = λ files rest mails is stands ahead known.
    let H = g.H.Shelf in
    let f = c.args.follower.now in
    let k = f.keeper in
    let shelf = c.args.shelf.now in
    let mid = c.follow_mails.new.shelf in
    let new = c.commit_all.new.shelf in
    let now = counts c.args.steps.now (H.written shelf) in
    let feed = whole files k mails c.args.moment in
    let made = c.in_ok-at.ensures in
    let on =
    (moment_made files k mails c.args.moment now (counts c.at.new.steps (H.written shelf)) (moment_costs files k mails c.args.moment now c.at.new.steps made.cost) (H.seen shelf) f c.at.new.self (g.M.Source.left c.args.mbox.now) rest is stands ahead made.mbox (first_way k feed now (H.seen shelf) c.requires.pending known) made.room made.state made.pending made.store) in
    let first = c.in_ok-follow_mails.ensures.goes files (outset k now) feed on in
    let second = c.commit_all.ensures.goes (outset k now) feed first.1 in (
      and_then H.moment H.left_since shelf mid new (Prefix k.state feed) (Prefix k.state feed) (Prefix k.state feed) first.0 second.0 (λ _ x. x) (λ _ x. x),
      second.1,
    )

pub returns-in_err-at-clause-cause : goal.returns-in_err-at-clause-cause
returns-in_err-at-clause-cause g c =
    let p = err_from_is_err_and c.from_residual.result c.from_residual.ensures.1 in
    rw (p.1, p.2) (full_caused _ _ _ _ c.at.new.self c.in_err-at.field-0.0 c.in_err-at.ensures.cause
    (λ is. inr (moment_filled c.args.follower.now.keeper.state c.args.moment (c.in_err-at.ensures.full (ap Err is)))))

pub returns-in_err-follow_mails-clause-cause : goal.returns-in_err-follow_mails-clause-cause
returns-in_err-follow_mails-clause-cause g c =
    let p = err_from_is_err_and c.from_residual-in_err-follow_mails.result c.from_residual-in_err-follow_mails.ensures.1 in
    rw (p.1, p.2) (cause_since _ _ _ _ _ _ _ _ c.follow_mails.new.follower c.in_err-follow_mails.field-0.0 (λ x. x) (λ x. x) (λ x. x) (λ x. inl x) c.in_err-follow_mails.ensures.cause)
