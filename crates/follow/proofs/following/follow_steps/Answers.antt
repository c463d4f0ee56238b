use Rattle.std.proofs.Common.{Some, Ok, refl, ap, sym, subst, ◌∙◌}
use Rattle.std.proofs.lemmas.Result.{err_from_is_err_and}
use Rattle.mboxrd.specs.Reading as mbox
use Rattle.outside.specs.Causes.{Rose}
use Rattle.outside.specs.Moments.{WhereKnown}
use Rattle.state_store.specs.Commits.{fill_of}
use Rattle.state_store.specs.Stored.{IsStored}
use Rattle.steps_file.specs.Reading as steps
use Rattle.follower.specs.Committing.{AllStand}
use Rattle.follower.specs.Feed.{files_of}
use Rattle.follower.specs.Following.{IsFollowFault}
use Rattle.follower.specs.Spending.{counts}
use Rattle.keeper.specs.Keeping.{Keeping}
use Rattle.state_store.specs.Stands.{stands}
use Rattle.state_store.proofs.Appending.{is_settled}
use Rattle.follow.specs.Outcome.{Gave, GaveNone, Kept, changes, given_of, mbox_budget, steps_budget, steps_found}
use Rattle.follow.specs.Replies.{Took}
use Rattle.follow.specs.Statuses.{refusal_of}
use Rattle.follow.proofs.Followed.{begin_leaves, begin_stops, both_begun, fits_same, follow_leaves, following_spends, goes_to_end, halts_stop, lines_begun, lines_fail, opening_spends, other_stops, own_state}
use Rattle.follow.proofs.Replied.{cause_on, cause_since_all, caused, filled_or, gave_none, kept_by, mbox_took_on, other_cause, steps_took_on, took_budget, took_first, took_gave, took_within}
use Rattle.follow.proofs.following.follow_steps.Goals as goal

pub returns-in_err-follower-clause-goes : goal.returns-in_err-follower-clause-goes
returns-in_err-follower-clause-goes g c = λ bytes lines places next known told seen.
    let H = g.H.Shelf in
    let p = err_from_is_err_and c.from_residual.result c.from_residual.ensures.1 in
    let given = given_of c.args.me.now c.args.at (steps_found bytes lines places next) in
    let began = c.in_err-follower.ensures.goes bytes places known seen in
    rw (p.1, p.2) (
      begin_leaves H.moment H.left_since (H.may_leave c.args.shelf.now) given c.args.shelf.now c.begin.new.shelf began.0,
      begin_stops given (H.may_leave c.begin.new.shelf) c.in_err-follower.field-0.0 began.1,
    )

pub returns-in_err-start_lines-clause-goes : goal.returns-in_err-start_lines-clause-goes
returns-in_err-start_lines-clause-goes g c = λ bytes lines places next known told seen.
    let H = g.H.Shelf in
    let p = err_from_is_err_and c.from_residual-in_err-start_lines.result c.from_residual-in_err-start_lines.ensures.1 in
    let given = given_of c.args.me.now c.args.at (steps_found bytes lines places next) in
    let f = c.in_ok-follower.follower in
    let shelf = c.begin.new.shelf in
    let began = c.in_ok-follower.ensures.goes bytes places known seen in
    let b = began.1 in
    let state = own_state c.args.me.now f.keeper.state (H.seen shelf) b.own b.known in
    let each : AllStand f.keeper.state.mailbox.me f.keeper.state (H.may_leave shelf) =
    λ x left. ap (stands f.keeper.state.mailbox.me) (is_settled f.keeper.store (H.may_leave shelf) state.places (c.in_ok-follower.ensures.stored state.places state.is) x left) ∙ state.holds in
    rw (p.1, p.2) (
      begin_leaves H.moment H.left_since (H.may_leave c.args.shelf.now) given c.args.shelf.now shelf began.0,
      lines_fail (g.S.Source.left c.args.steps_file.now) (g.S.Source.left c.start_lines.new.steps_file) lines given f c.start_lines.new.self (H.may_leave shelf) told b.stand_is b.own b.within refl each
          c.in_err-start_lines.field-0.0 c.in_err-start_lines.ensures.starts,
    )

-- an input is another one
pub returns-in_err-check_inputs-clause-goes : goal.returns-in_err-check_inputs-clause-goes
returns-in_err-check_inputs-clause-goes g c = λ bytes lines places next known told seen.
    let H = g.H.Shelf in
    let p = err_from_is_err_and c.from_residual-in_err-check_inputs.result c.from_residual-in_err-check_inputs.ensures.1 in
    let me = c.args.me.now in
    let given = given_of me c.args.at (steps_found bytes lines places next) in
    let f = c.in_ok-follower.follower in
    let new = c.start_lines.new.self in
    let s = new.keeper.state in
    let shelf = c.begin.new.shelf in
    let began = c.in_ok-follower.ensures.goes bytes places known seen in
    let start = c.in_ok-start_lines.ensures in
    let l = lines_begun (g.S.Source.left c.args.steps_file.now) (g.S.Source.left c.start_lines.new.steps_file) lines f new told start.keeper start.starts in
    let b = both_begun me c.args.at bytes lines places next (g.M.Source.left c.begin.new.mbox) (g.S.Source.left c.start_lines.new.steps_file) (H.seen shelf) f new began.1 l start.keeper start.mbox in
    let stored = subst (λ (k : Keeping). WhereKnown (H.seen shelf) (IsStored k.store (H.may_leave shelf))) (sym start.keeper) c.in_ok-follower.ensures.stored in
    let each : AllStand s.mailbox.me s (H.may_leave shelf) =
    λ x left. ap (stands s.mailbox.me) (is_settled new.keeper.store (H.may_leave shelf) b.known.places (stored b.known.places b.known.is) x left) ∙ b.known.holds in
    rw (p.1, p.2) (
      begin_leaves H.moment H.left_since (H.may_leave c.args.shelf.now) given c.args.shelf.now shelf began.0,
      other_stops given s b.stand_is (H.may_leave shelf) c.in_err-check_inputs.field-0.0 c.in_err-check_inputs.ensures.possible b.own b.traced
          (c.in_err-check_inputs.ensures.gives bytes (Some lines) refl b.passed) each,
    )

pub returns-in_err-follow_lines_to_end-clause-goes : goal.returns-in_err-follow_lines_to_end-clause-goes
returns-in_err-follow_lines_to_end-clause-goes g c = λ bytes lines places next known told seen.
    let H = g.H.Shelf in
    let p = err_from_is_err_and c.from_residual-in_err-follow_lines_to_end.result c.from_residual-in_err-follow_lines_to_end.ensures.1 in
    let me = c.args.me.now in
    let given = given_of me c.args.at (steps_found bytes lines places next) in
    let f = c.in_ok-follower.follower in
    let new = c.start_lines.new.self in
    let s = new.keeper.state in
    let why = c.in_err-follow_lines_to_end.field-0.0 in
    let old = c.args.shelf.now in
    let mid = c.begin.new.shelf in
    let after = c.follow_lines_to_end.new.shelf in
    let began = c.in_ok-follower.ensures.goes bytes places known seen in
    let start = c.in_ok-start_lines.ensures in
    let l = lines_begun (g.S.Source.left c.args.steps_file.now) (g.S.Source.left c.start_lines.new.steps_file) lines f new told start.keeper start.starts in
    let b = both_begun me c.args.at bytes lines places next (g.M.Source.left c.begin.new.mbox) (g.S.Source.left c.start_lines.new.steps_file) (H.seen mid) f new began.1 l start.keeper start.mbox in
    let fits = fits_same given s b.traced (c.in_ok-check_inputs.ensures.gives bytes (Some lines) refl b.passed) in
    let went = c.in_err-follow_lines_to_end.ensures.goes (files_of bytes (Some lines)) began.1.rest l.rest (changes given s) began.1.left_is l.left_is b.mbox_stands b.steps_stand b.changes_are b.known in
    rw (p.1, p.2) (
      follow_leaves H.moment H.left_since (H.may_leave old) given old mid after s b.stand_is began.0 went.0,
      halts_stop given s b.stand_is (H.may_leave after) b.own fits why c.in_err-follow_lines_to_end.ensures.possible went.1.halts,
    )

pub returns-clause-goes : goal.returns-clause-goes
returns-clause-goes g c = λ bytes lines places next known told seen.
    let H = g.H.Shelf in
    let me = c.args.me.now in
    let given = given_of me c.args.at (steps_found bytes lines places next) in
    let f = c.in_ok-follower.follower in
    let new = c.start_lines.new.self in
    let s = new.keeper.state in
    let old = c.args.shelf.now in
    let mid = c.begin.new.shelf in
    let after = c.follow_lines_to_end.new.shelf in
    let began = c.in_ok-follower.ensures.goes bytes places known seen in
    let start = c.in_ok-start_lines.ensures in
    let l = lines_begun (g.S.Source.left c.args.steps_file.now) (g.S.Source.left c.start_lines.new.steps_file) lines f new told start.keeper start.starts in
    let b = both_begun me c.args.at bytes lines places next (g.M.Source.left c.begin.new.mbox) (g.S.Source.left c.start_lines.new.steps_file) (H.seen mid) f new began.1 l start.keeper start.mbox in
    let fits = fits_same given s b.traced (c.in_ok-check_inputs.ensures.gives bytes (Some lines) refl b.passed) in
    let went = c.in_ok-follow_lines_to_end.ensures.goes (files_of bytes (Some lines)) began.1.rest l.rest (changes given s) began.1.left_is l.left_is b.mbox_stands b.steps_stand b.changes_are b.known in (
      follow_leaves H.moment H.left_since (H.may_leave old) given old mid after s b.stand_is began.0 went.0,
      goes_to_end given s b.stand_is (H.may_leave after) b.own fits c.follow_lines_to_end.new.follower (fill_of new.keeper.store) (counts c.begin.new.steps (H.written mid))
          (counts c.follow_lines_to_end.new.steps (H.written after)) went.1,
    )

-- ---- what is read and written

pub returns-in_err-follower-clause-spends : goal.returns-in_err-follower-clause-spends
returns-in_err-follower-clause-spends g c = λ bytes lines places next known told seen.
    let written = g.H.Shelf.written in
    let began = c.in_err-follower.ensures in
    opening_spends (given_of c.args.me.now c.args.at (steps_found bytes lines places next)) (counts c.args.steps.now (written c.args.shelf.now)) (counts c.begin.new.steps (written c.begin.new.shelf))
    (began.cost places seen) began.written

pub returns-in_err-start_lines-clause-spends : goal.returns-in_err-start_lines-clause-spends
returns-in_err-start_lines-clause-spends g c = λ bytes lines places next known told seen.
    let written = g.H.Shelf.written in
    let began = c.in_ok-follower.ensures in
    opening_spends (given_of c.args.me.now c.args.at (steps_found bytes lines places next)) (counts c.args.steps.now (written c.args.shelf.now)) (counts c.begin.new.steps (written c.begin.new.shelf))
    (began.cost places seen) began.written

pub returns-in_err-check_inputs-clause-spends : goal.returns-in_err-check_inputs-clause-spends
returns-in_err-check_inputs-clause-spends g c = λ bytes lines places next known told seen.
    let written = g.H.Shelf.written in
    let began = c.in_ok-follower.ensures in
    opening_spends (given_of c.args.me.now c.args.at (steps_found bytes lines places next)) (counts c.args.steps.now (written c.args.shelf.now)) (counts c.begin.new.steps (written c.begin.new.shelf))
    (began.cost places seen) began.written

pub returns-in_err-follow_lines_to_end-clause-spends : goal.returns-in_err-follow_lines_to_end-clause-spends
returns-in_err-follow_lines_to_end-clause-spends g c = λ bytes lines places next known told seen.
    let H = g.H.Shelf in
    let me = c.args.me.now in
    let given = given_of me c.args.at (steps_found bytes lines places next) in
    let f = c.in_ok-follower.follower in
    let new = c.start_lines.new.self in
    let s = new.keeper.state in
    let mid = c.begin.new.shelf in
    let began = c.in_ok-follower.ensures in
    let goes = began.goes bytes places known seen in
    let start = c.in_ok-start_lines.ensures in
    let l = lines_begun (g.S.Source.left c.args.steps_file.now) (g.S.Source.left c.start_lines.new.steps_file) lines f new told start.keeper start.starts in
    let b = both_begun me c.args.at bytes lines places next (g.M.Source.left c.begin.new.mbox) (g.S.Source.left c.start_lines.new.steps_file) (H.seen mid) f new goes.1 l start.keeper start.mbox in
    let fits = fits_same given s b.traced (c.in_ok-check_inputs.ensures.gives bytes (Some lines) refl b.passed) in
    let went = c.in_err-follow_lines_to_end.ensures.goes (files_of bytes (Some lines)) goes.1.rest l.rest (changes given s) goes.1.left_is l.left_is b.mbox_stands b.steps_stand b.changes_are b.known in
    following_spends given s b.stand_is (counts c.args.steps.now (H.written c.args.shelf.now)) (counts c.begin.new.steps (H.written mid)) (began.cost places seen) began.written
    (fill_of new.keeper.store) (changes given s) (counts c.follow_lines_to_end.new.steps (H.written c.follow_lines_to_end.new.shelf)) fits
    (ap (λ (k : Keeping). fill_of k.store) start.keeper ∙ began.fill places seen) refl went.1.spends

pub returns-clause-spends : goal.returns-clause-spends
returns-clause-spends g c = λ bytes lines places next known told seen.
    let H = g.H.Shelf in
    let me = c.args.me.now in
    let given = given_of me c.args.at (steps_found bytes lines places next) in
    let f = c.in_ok-follower.follower in
    let new = c.start_lines.new.self in
    let s = new.keeper.state in
    let mid = c.begin.new.shelf in
    let began = c.in_ok-follower.ensures in
    let goes = began.goes bytes places known seen in
    let start = c.in_ok-start_lines.ensures in
    let l = lines_begun (g.S.Source.left c.args.steps_file.now) (g.S.Source.left c.start_lines.new.steps_file) lines f new told start.keeper start.starts in
    let b = both_begun me c.args.at bytes lines places next (g.M.Source.left c.begin.new.mbox) (g.S.Source.left c.start_lines.new.steps_file) (H.seen mid) f new goes.1 l start.keeper start.mbox in
    let fits = fits_same given s b.traced (c.in_ok-check_inputs.ensures.gives bytes (Some lines) refl b.passed) in
    let went = c.in_ok-follow_lines_to_end.ensures.goes (files_of bytes (Some lines)) goes.1.rest l.rest (changes given s) goes.1.left_is l.left_is b.mbox_stands b.steps_stand b.changes_are b.known in
    following_spends given s b.stand_is (counts c.args.steps.now (H.written c.args.shelf.now)) (counts c.begin.new.steps (H.written mid)) (began.cost places seen) began.written
    (fill_of new.keeper.store) (changes given s) (counts c.follow_lines_to_end.new.steps (H.written c.follow_lines_to_end.new.shelf)) fits
    (ap (λ (k : Keeping). fill_of k.store) start.keeper ∙ began.fill places seen) refl went.1.spends

-- ---- causes, and the bytes that were taken

pub returns-in_err-follower-clause-cause : goal.returns-in_err-follower-clause-cause
returns-in_err-follower-clause-cause g c =
    let p = err_from_is_err_and c.from_residual.result c.from_residual.ensures.1 in
    let M = g.M.Source in
    let H = g.H.Shelf in
    let mbox_gave = Gave (M.left c.args.mbox.now) (M.left c.begin.new.mbox) in
    let lines = g.S.Source.left c.args.steps_file.now in
    rw (p.1, p.2) (cause_on _ (Rose (M.faults c.args.mbox.now) (M.faults c.begin.new.mbox)) ⊥ _ _ (Rose (H.faults c.args.shelf.now) (H.faults c.begin.new.shelf))
    mbox_gave mbox_gave GaveNone (Gave lines lines) (Kept c.args.me.now (H.seen c.args.shelf.now)) (λ x. x) (λ never. absurd never) (λ x. x) (λ X x. x) (gave_none lines)
    (refusal_of c.args.me.now c.in_err-follower.field-0.0) c.in_err-follower.ensures.cause)

pub returns-in_err-start_lines-clause-cause : goal.returns-in_err-start_lines-clause-cause
returns-in_err-start_lines-clause-cause g c =
    let p = err_from_is_err_and c.from_residual-in_err-start_lines.result c.from_residual-in_err-start_lines.ensures.1 in
    let M = g.M.Source in
    let S = g.S.Source in
    let old = S.left c.args.steps_file.now in
    let after = S.left c.start_lines.new.steps_file in
    let began = c.in_ok-follower.ensures in
    let start = c.in_err-start_lines.ensures in
    let new = c.start_lines.new.self in
    let why = c.in_err-start_lines.field-0.0 in
    let mbox_old = M.left c.args.mbox.now in
    let mbox_after = M.left c.begin.new.mbox in
    let took = took_first old after (steps.buffered c.in_ok-follower.follower.lines) (steps.buffered new.lines) steps_budget began.lines.0 began.lines.1 began.lines.2 start.took in
    let rose = Rose (S.faults c.args.steps_file.now) (S.faults c.start_lines.new.steps_file) in
    let me = c.args.me.now in
    let seen = g.H.Shelf.seen c.args.shelf.now in
    let mails = subst (λ (r : mbox.Reading). Took mbox_old mbox_after mbox_budget (mbox.buffered r)) (sym start.mbox) began.mbox_took in
    let here = caused ⊥ rose ⊥ ⊥ (Gave mbox_old mbox_after) (Gave old after) (Kept me seen) new me (took_gave mbox_old mbox_after (mbox.buffered new.mbox) mbox_budget mails)
    (took_gave old after (steps.buffered new.lines) steps_budget took) (took_budget mbox_old mbox_after (mbox.buffered new.mbox) mbox_budget mails)
    (took_budget old after (steps.buffered new.lines) steps_budget took) (λ never. absurd never) why start.cause
    (λ input is. kept_by me seen new.keeper.state (λ places told. began.opens places told ∙ ap (λ (k : Keeping). Ok k.state) (sym start.keeper))) in
    rw (p.1, p.2) (cause_on ⊥ _ rose rose ⊥ _ (Gave mbox_old mbox_after) (Gave mbox_old mbox_after) (Gave old after) (Gave old after) (Kept me seen)
    (λ never. absurd never) (λ x. x) (λ never. absurd never) (λ X x. x) (λ X x. x) (refusal_of me why) here)

pub returns-in_err-start_lines-clause-steps_took : goal.returns-in_err-start_lines-clause-steps_took
returns-in_err-start_lines-clause-steps_took g c =
    let left = g.S.Source.left in
    let began = c.in_ok-follower.ensures in
    let new = steps.buffered c.start_lines.new.self.lines in
    took_within (left c.args.steps_file.now) (left c.start_lines.new.steps_file) new steps_budget
    (took_first (left c.args.steps_file.now) (left c.start_lines.new.steps_file) (steps.buffered c.in_ok-follower.follower.lines) new steps_budget began.lines.0 began.lines.1 began.lines.2
    c.in_err-start_lines.ensures.took)

pub returns-in_err-check_inputs-clause-cause : goal.returns-in_err-check_inputs-clause-cause
returns-in_err-check_inputs-clause-cause g c =
    let p = err_from_is_err_and c.from_residual-in_err-check_inputs.result c.from_residual-in_err-check_inputs.ensures.1 in
    let M = g.M.Source in
    let S = g.S.Source in
    let H = g.H.Shelf in
    rw (p.1, p.2) (other_cause _ _ (Rose (H.faults c.args.shelf.now) (H.faults c.begin.new.shelf)) (Gave (M.left c.args.mbox.now) (M.left c.begin.new.mbox))
    (Gave (S.left c.args.steps_file.now) (S.left c.start_lines.new.steps_file)) (Kept c.args.me.now (H.seen c.args.shelf.now)) c.args.me.now c.in_err-check_inputs.field-0.0 c.in_err-check_inputs.ensures.possible)

pub returns-in_err-check_inputs-clause-steps_took : goal.returns-in_err-check_inputs-clause-steps_took
returns-in_err-check_inputs-clause-steps_took g c =
    let left = g.S.Source.left in
    let began = c.in_ok-follower.ensures in
    let new = steps.buffered c.start_lines.new.self.lines in
    took_within (left c.args.steps_file.now) (left c.start_lines.new.steps_file) new steps_budget
    (took_first (left c.args.steps_file.now) (left c.start_lines.new.steps_file) (steps.buffered c.in_ok-follower.follower.lines) new steps_budget began.lines.0 began.lines.1 began.lines.2
    c.in_ok-start_lines.ensures.took)

pub follow_lines_to_end-requires-clause-stored : goal.follow_lines_to_end-requires-clause-stored
follow_lines_to_end-requires-clause-stored g c =
    let H = g.H.Shelf in
    subst (λ (k : Keeping). WhereKnown (H.seen c.begin.new.shelf) (IsStored k.store (H.may_leave c.begin.new.shelf))) (sym c.in_ok-start_lines.ensures.keeper) c.in_ok-follower.ensures.stored

pub returns-in_err-follow_lines_to_end-clause-cause : goal.returns-in_err-follow_lines_to_end-clause-cause
returns-in_err-follow_lines_to_end-clause-cause g c =
    let p = err_from_is_err_and c.from_residual-in_err-follow_lines_to_end.result c.from_residual-in_err-follow_lines_to_end.ensures.1 in
    let M = g.M.Source in
    let S = g.S.Source in
    let H = g.H.Shelf in
    let began = c.in_ok-follower.ensures in
    let start = c.in_ok-start_lines.ensures in
    let went = c.in_err-follow_lines_to_end.ensures in
    let new = c.follow_lines_to_end.new.follower in
    let why = c.in_err-follow_lines_to_end.field-0.0 in
    let mails = mbox_took_on (M.left c.args.mbox.now) (M.left c.begin.new.mbox) (M.left c.follow_lines_to_end.new.mbox) c.in_ok-follower.follower c.start_lines.new.self new began.mbox_took start.mbox went.mbox_took in
    let lines = steps_took_on (S.left c.args.steps_file.now) (S.left c.start_lines.new.steps_file) (S.left c.follow_lines_to_end.new.steps_file) c.in_ok-follower.follower c.start_lines.new.self new
    (began.lines.0, began.lines.1, began.lines.2) start.took went.steps_took in
    let me = c.args.me.now in
    let seen = H.seen c.args.shelf.now in
    let mbox_old = M.left c.args.mbox.now in
    let mbox_after = M.left c.follow_lines_to_end.new.mbox in
    let old = S.left c.args.steps_file.now in
    let after = S.left c.follow_lines_to_end.new.steps_file in
    let first = c.start_lines.new.self.keeper.state in
    let mails_gave = took_gave mbox_old mbox_after (mbox.buffered new.mbox) mbox_budget mails in
    let lines_gave = took_gave old after (steps.buffered new.lines) steps_budget lines in
    let kept = kept_by me seen first (λ places told. began.opens places told ∙ ap (λ (k : Keeping). Ok k.state) (sym start.keeper)) in
    let here = caused _ _ _ _ (Gave mbox_old mbox_after) (Gave old after) (Kept me seen) new me mails_gave lines_gave (took_budget mbox_old mbox_after (mbox.buffered new.mbox) mbox_budget mails)
    (took_budget old after (steps.buffered new.lines) steps_budget lines) (filled_or (Gave mbox_old mbox_after) (Gave old after) (Kept me seen) new first mails_gave lines_gave kept)
    why went.cause (λ input is. absurd (subst IsFollowFault is went.possible)) in
    rw (p.1, p.2) (cause_since_all (Gave mbox_old mbox_after) (Gave old after) (Kept me seen) (refusal_of me why)
    (M.faults c.args.mbox.now) (M.faults c.begin.new.mbox) (M.faults c.follow_lines_to_end.new.mbox)
    (S.faults c.args.steps_file.now) (S.faults c.start_lines.new.steps_file) (S.faults c.follow_lines_to_end.new.steps_file)
    (H.faults c.args.shelf.now) (H.faults c.begin.new.shelf) (H.faults c.follow_lines_to_end.new.shelf) began.mbox_later start.later began.shelf_later here)

pub returns-in_err-follow_lines_to_end-clause-mbox_took : goal.returns-in_err-follow_lines_to_end-clause-mbox_took
returns-in_err-follow_lines_to_end-clause-mbox_took g c =
    let left = g.M.Source.left in
    let new = c.follow_lines_to_end.new.follower in
    took_within (left c.args.mbox.now) (left c.follow_lines_to_end.new.mbox) (mbox.buffered new.mbox) mbox_budget
    (mbox_took_on (left c.args.mbox.now) (left c.begin.new.mbox) (left c.follow_lines_to_end.new.mbox) c.in_ok-follower.follower c.start_lines.new.self new
    c.in_ok-follower.ensures.mbox_took c.in_ok-start_lines.ensures.mbox c.in_err-follow_lines_to_end.ensures.mbox_took)

pub returns-in_err-follow_lines_to_end-clause-steps_took : goal.returns-in_err-follow_lines_to_end-clause-steps_took
returns-in_err-follow_lines_to_end-clause-steps_took g c =
    let left = g.S.Source.left in
    let new = c.follow_lines_to_end.new.follower in
    let begun = c.in_ok-follower.ensures.lines in
    took_within (left c.args.steps_file.now) (left c.follow_lines_to_end.new.steps_file) (steps.buffered new.lines) steps_budget
    (steps_took_on (left c.args.steps_file.now) (left c.start_lines.new.steps_file) (left c.follow_lines_to_end.new.steps_file) c.in_ok-follower.follower c.start_lines.new.self new
    (begun.0, begun.1, begun.2) c.in_ok-start_lines.ensures.took c.in_err-follow_lines_to_end.ensures.steps_took)

pub returns-clause-mbox_took : goal.returns-clause-mbox_took
returns-clause-mbox_took g c =
    let left = g.M.Source.left in
    let new = c.follow_lines_to_end.new.follower in
    took_within (left c.args.mbox.now) (left c.follow_lines_to_end.new.mbox) (mbox.buffered new.mbox) mbox_budget
    (mbox_took_on (left c.args.mbox.now) (left c.begin.new.mbox) (left c.follow_lines_to_end.new.mbox) c.in_ok-follower.follower c.start_lines.new.self new
    c.in_ok-follower.ensures.mbox_took c.in_ok-start_lines.ensures.mbox c.in_ok-follow_lines_to_end.ensures.mbox_took)

pub returns-clause-steps_took : goal.returns-clause-steps_took
returns-clause-steps_took g c =
    let left = g.S.Source.left in
    let new = c.follow_lines_to_end.new.follower in
    let begun = c.in_ok-follower.ensures.lines in
    took_within (left c.args.steps_file.now) (left c.follow_lines_to_end.new.steps_file) (steps.buffered new.lines) steps_budget
    (steps_took_on (left c.args.steps_file.now) (left c.start_lines.new.steps_file) (left c.follow_lines_to_end.new.steps_file) c.in_ok-follower.follower c.start_lines.new.self new
    (begun.0, begun.1, begun.2) c.in_ok-start_lines.ensures.took c.in_ok-follow_lines_to_end.ensures.steps_took)
