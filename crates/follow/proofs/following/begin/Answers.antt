use Rattle.std.proofs.Common.{Err, Ok, ap, subst, sym, ◌∙◌}
use Rattle.std.proofs.lemmas.Result.{err_from_is_err_and}
use Rattle.mboxrd.specs.Reading as mbox
use Rattle.steps_file.specs.Reading as steps
use Rattle.outside.specs.Causes.{Rose}
use Rattle.outside.specs.Moments.{WhereKnown}
use Rattle.state_store.specs.Stored.{IsStored}
use Rattle.keeper.specs.Keeping.{Keeping}
use Rattle.follow.specs.Outcome.{Gave, GaveNone, Kept, mbox_budget}
use Rattle.follow.specs.Statuses.{refusal_of}
use Rattle.follow.proofs.Followed.{begun, each_stands, known_after, opening_leaves, start_fails}
use Rattle.follow.proofs.Replied.{cause_on, caused, kept_by, none_taken, open_cause, took_budget, took_first, took_gave, took_within}
use Rattle.follow.proofs.following.begin.Goals as goal

pub returns-in_err-follower-clause-cause : goal.returns-in_err-follower-clause-cause
returns-in_err-follower-clause-cause g c =
    let p = err_from_is_err_and c.from_residual.result c.from_residual.ensures.1 in
    let opened = c.in_err-follower.ensures in
    let left = g.M.Source.left c.args.mbox.now in
    rw (p.1, p.2) (open_cause _ _ _ (Gave left left) GaveNone (Kept c.args.me.now (g.H.Shelf.seen c.args.shelf.now)) c.args.me.now c.in_err-follower.field-0.0 opened.possible (λ is. opened.cause (ap Err is)))

pub returns-in_err-start_mbox-clause-goes : goal.returns-in_err-start_mbox-clause-goes
returns-in_err-start_mbox-clause-goes g c = λ bytes places known seen.
    let H = g.H.Shelf in
    let left = g.M.Source.left in
    let p = err_from_is_err_and c.from_residual-in_err-start_mbox.result c.from_residual-in_err-start_mbox.ensures.1 in
    let me = c.args.me.now in
    let f = c.in_ok-follower.follower in
    let old = c.args.shelf.now in
    let shelf = c.open.new.shelf in
    let opened = c.in_ok-follower.ensures in
    let stand = opened.opens places seen in
    let each = each_stands me places (H.seen old) (H.seen shelf) f.keeper stand.0 stand.1 seen opened.same (H.may_leave shelf) opened.stored in
    rw (p.1, p.2) (
      opening_leaves H.moment H.left_since (H.may_leave old) me old shelf (opened.any_moment places seen),
      start_fails (left c.args.mbox.now) (left c.start_mbox.new.mbox) me bytes places f c.start_mbox.new.self (H.may_leave shelf) known stand.0 stand.1 each
          c.in_err-start_mbox.field-0.0 c.in_err-start_mbox.ensures.starts,
    )

pub returns-in_err-start_mbox-clause-cause : goal.returns-in_err-start_mbox-clause-cause
returns-in_err-start_mbox-clause-cause g c =
    let p = err_from_is_err_and c.from_residual-in_err-start_mbox.result c.from_residual-in_err-start_mbox.ensures.1 in
    let left = g.M.Source.left in
    let opened = c.in_ok-follower.ensures in
    let start = c.in_err-start_mbox.ensures in
    let new = c.start_mbox.new.self in
    let why = c.in_err-start_mbox.field-0.0 in
    let old = left c.args.mbox.now in
    let after = left c.start_mbox.new.mbox in
    let rose = Rose (g.M.Source.faults c.args.mbox.now) (g.M.Source.faults c.start_mbox.new.mbox) in
    let me = c.args.me.now in
    let seen = g.H.Shelf.seen c.args.shelf.now in
    let took = took_first old after (mbox.buffered c.in_ok-follower.follower.mbox) (mbox.buffered new.mbox) mbox_budget opened.mbox.0 opened.mbox.1 opened.mbox.2 start.took in
    let here = caused rose ⊥ ⊥ ⊥ (Gave old after) GaveNone (Kept me seen) new me (took_gave old after (mbox.buffered new.mbox) mbox_budget took)
    (none_taken new.lines c.in_ok-follower.follower.lines start.lines opened.lines.1) (took_budget old after (mbox.buffered new.mbox) mbox_budget took)
    (ap (λ (r : steps.Reading). r.budget) start.lines ∙ opened.lines.2) (λ never. absurd never) why start.cause
    (λ input is. kept_by me seen new.keeper.state (λ places told. (opened.opens places told).0 ∙ ap (λ (k : Keeping). Ok k.state) (sym start.keeper))) in
    rw (p.1, p.2) (cause_on rose rose ⊥ ⊥ ⊥ _ (Gave old after) (Gave old after) GaveNone GaveNone (Kept me seen) (λ x. x) (λ x. x) (λ never. absurd never) (λ X x. x) (λ X x. x) (refusal_of me why) here)

pub returns-in_err-start_mbox-clause-took : goal.returns-in_err-start_mbox-clause-took
returns-in_err-start_mbox-clause-took g c =
    let left = g.M.Source.left in
    let opened = c.in_ok-follower.ensures in
    let old = left c.args.mbox.now in
    let after = left c.start_mbox.new.mbox in
    let new = mbox.buffered c.start_mbox.new.self.mbox in
    took_within old after new mbox_budget (took_first old after (mbox.buffered c.in_ok-follower.follower.mbox) new mbox_budget opened.mbox.0 opened.mbox.1 opened.mbox.2 c.in_err-start_mbox.ensures.took)

pub returns-clause-goes : goal.returns-clause-goes
returns-clause-goes g c = λ bytes places known seen.
    let H = g.H.Shelf in
    let left = g.M.Source.left in
    let me = c.args.me.now in
    let f = c.in_ok-follower.follower in
    let old = c.args.shelf.now in
    let shelf = c.open.new.shelf in
    let opened = c.in_ok-follower.ensures in
    let stand = opened.opens places seen in (
      opening_leaves H.moment H.left_since (H.may_leave old) me old shelf (opened.any_moment places seen),
      begun (left c.args.mbox.now) (left c.start_mbox.new.mbox) me bytes places (H.seen shelf) f c.start_mbox.new.self known stand.0 stand.1 c.in_ok-start_mbox.ensures.keeper
          (known_after me places (H.seen old) (H.seen shelf) f.keeper stand.0 stand.1 seen opened.same) c.in_ok-start_mbox.ensures.starts,
    )

pub returns-clause-stored : goal.returns-clause-stored
returns-clause-stored g c =
    let H = g.H.Shelf in
    subst (λ (k : Keeping). WhereKnown (H.seen c.open.new.shelf) (IsStored k.store (H.may_leave c.open.new.shelf))) (sym c.in_ok-start_mbox.ensures.keeper) c.in_ok-follower.ensures.stored

pub returns-clause-opens : goal.returns-clause-opens
returns-clause-opens g c places told =
    (c.in_ok-follower.ensures.opens places told).0 ∙ ap (λ (k : Keeping). Ok k.state) (sym c.in_ok-start_mbox.ensures.keeper)
