use Rattle.std.proofs.Common.{◌≡◌, ◌∙◌, ℕ, None, Some, refl, ap, sym, subst}
use Rattle.std.proofs.lemmas.Result.{err_from_is_err_and}
use Rattle.mboxrd.specs.Reading as mbox
use Rattle.steps_file.specs.Reading as steps
use Rattle.outside.specs.Causes.{Rose}
use Rattle.outside.specs.Moments.{LeavesOnly}
use Rattle.state_store.specs.Commits.{fill_of}
use Rattle.state_store.specs.Stands.{stands}
use Rattle.state_store.proofs.Appending.{is_settled}
use Rattle.follower.specs.Committing.{AllStand, Ends, Prefix, Stops, outset}
use Rattle.follower.specs.Following.{IsFollowFault}
use Rattle.follower.specs.Spending.{counts}
use Rattle.follower.specs.Feed.{Feed, files_of, mails_feed, mails_left}
use Rattle.follow.specs.Outcome.{Gave, GaveNone, Kept, changes, given_of, mbox_budget, mbox_found}
use Rattle.follow.specs.Statuses.{refusal_of}
use Rattle.follow.proofs.Followed.{begin_leaves, begin_stops, fits_same, follow_leaves, following_spends, goes_to_end, halts_stop, opening_spends, other_stops, own_state, passed_alone, traced_alone}
use Rattle.follow.proofs.Replied.{cause_later, caused, filled_or, kept_by, none_taken, other_cause, took_budget, took_gave, took_more, took_within}
use Rattle.follow.proofs.following.follow_mbox.Goals as goal

pub returns-in_err-follower-clause-goes : goal.returns-in_err-follower-clause-goes
returns-in_err-follower-clause-goes g c = λ bytes places next known seen gives.
    let H = g.H.Shelf in
    let p = err_from_is_err_and c.from_residual.result c.from_residual.ensures.1 in
    let given = given_of c.args.me.now c.args.at (mbox_found bytes places next) in
    let began = c.in_err-follower.ensures.goes bytes places known seen in
    rw (p.1, p.2) (
      begin_leaves H.moment H.left_since (H.may_leave c.args.shelf.now) given c.args.shelf.now c.begin.new.shelf began.0,
      begin_stops given (H.may_leave c.begin.new.shelf) c.in_err-follower.field-0.0 began.1,
    )

-- the mbox is another one
pub returns-in_err-check_inputs-clause-goes : goal.returns-in_err-check_inputs-clause-goes
returns-in_err-check_inputs-clause-goes g c = λ bytes places next known seen gives.
    let H = g.H.Shelf in
    let p = err_from_is_err_and c.from_residual-in_err-check_inputs.result c.from_residual-in_err-check_inputs.ensures.1 in
    let me = c.args.me.now in
    let given = given_of me c.args.at (mbox_found bytes places next) in
    let f = c.in_ok-follower.follower in
    let s = f.keeper.state in
    let shelf = c.begin.new.shelf in
    let began = c.in_ok-follower.ensures.goes bytes places known seen in
    let b = began.1 in
    let passed = passed_alone me bytes (stands me places) f (g.M.Source.left c.begin.new.mbox) (H.seen shelf) b in
    let state = own_state me s (H.seen shelf) b.own b.known in
    let each : AllStand s.mailbox.me s (H.may_leave shelf) =
    λ x left. ap (stands s.mailbox.me) (is_settled f.keeper.store (H.may_leave shelf) state.places (c.in_ok-follower.ensures.stored state.places state.is) x left) ∙ state.holds in
    rw (p.1, p.2) (
      begin_leaves H.moment H.left_since (H.may_leave c.args.shelf.now) given c.args.shelf.now shelf began.0,
      other_stops given s b.stand_is (H.may_leave shelf) c.in_err-check_inputs.field-0.0 c.in_err-check_inputs.ensures.possible b.own (traced_alone given s b.own b.within refl)
          (c.in_err-check_inputs.ensures.gives bytes None refl passed) each,
    )

-- what the follower makes of the mbox is what the run finds
pub returns-in_err-follow_mails_to_end-clause-goes : goal.returns-in_err-follow_mails_to_end-clause-goes
returns-in_err-follow_mails_to_end-clause-goes g c = λ bytes places next known seen gives.
    let H = g.H.Shelf in
    let p = err_from_is_err_and c.from_residual-in_err-follow_mails_to_end.result c.from_residual-in_err-follow_mails_to_end.ensures.1 in
    let me = c.args.me.now in
    let given = given_of me c.args.at (mbox_found bytes places next) in
    let f = c.in_ok-follower.follower in
    let s = f.keeper.state in
    let why = c.in_err-follow_mails_to_end.field-0.0 in
    let old = c.args.shelf.now in
    let mid = c.begin.new.shelf in
    let new = c.follow_mails_to_end.new.shelf in
    let began = c.in_ok-follower.ensures.goes bytes places known seen in
    let b = began.1 in
    let files = files_of bytes None in
    let passed = passed_alone me bytes (stands me places) f (g.M.Source.left c.begin.new.mbox) (H.seen mid) b in
    let fits = fits_same given s (traced_alone given s b.own b.within refl) (c.in_ok-check_inputs.ensures.gives bytes None refl passed) in
    let went = c.in_err-follow_mails_to_end.ensures.goes files b.rest (mails_left s.position bytes) b.left_is (b.mbox_stands files refl) (sym b.ahead) (own_state me s (H.seen mid) b.own b.known) in
    let feed : mails_feed files s (mails_left s.position bytes) (Some c.moment_or_now-moment.result) ≡ changes given s =
    ap (λ (n : ℕ). mails_feed files s (mails_left s.position bytes) (Some n)) (c.moment_or_now-moment.ensures.value next gives) in
    let leaves = subst (λ (x : Feed). LeavesOnly H.moment H.left_since mid new (Prefix s x)) feed went.0 in
    let ends = subst (λ (x : Feed). Stops why (outset f.keeper (counts c.begin.new.steps (H.written mid))) x (counts c.follow_mails_to_end.new.steps (H.written new)) (H.may_leave new)) feed went.1 in
    rw (p.1, p.2) (
      follow_leaves H.moment H.left_since (H.may_leave old) given old mid new s b.stand_is began.0 leaves,
      halts_stop given s b.stand_is (H.may_leave new) b.own fits why c.in_err-follow_mails_to_end.ensures.possible ends.halts,
    )

pub returns-clause-goes : goal.returns-clause-goes
returns-clause-goes g c = λ bytes places next known seen gives.
    let H = g.H.Shelf in
    let me = c.args.me.now in
    let given = given_of me c.args.at (mbox_found bytes places next) in
    let f = c.in_ok-follower.follower in
    let s = f.keeper.state in
    let old = c.args.shelf.now in
    let mid = c.begin.new.shelf in
    let new = c.follow_mails_to_end.new.shelf in
    let began = c.in_ok-follower.ensures.goes bytes places known seen in
    let b = began.1 in
    let files = files_of bytes None in
    let passed = passed_alone me bytes (stands me places) f (g.M.Source.left c.begin.new.mbox) (H.seen mid) b in
    let fits = fits_same given s (traced_alone given s b.own b.within refl) (c.in_ok-check_inputs.ensures.gives bytes None refl passed) in
    let went = c.in_ok-follow_mails_to_end.ensures.goes files b.rest (mails_left s.position bytes) b.left_is (b.mbox_stands files refl) (sym b.ahead) (own_state me s (H.seen mid) b.own b.known) in
    let feed : mails_feed files s (mails_left s.position bytes) (Some c.moment_or_now-moment.result) ≡ changes given s =
    ap (λ (n : ℕ). mails_feed files s (mails_left s.position bytes) (Some n)) (c.moment_or_now-moment.ensures.value next gives) in
    let leaves = subst (λ (x : Feed). LeavesOnly H.moment H.left_since mid new (Prefix s x)) feed went.0 in
    let now = counts c.begin.new.steps (H.written mid) in
    let later = counts c.follow_mails_to_end.new.steps (H.written new) in
    let ends = subst (λ (x : Feed). Ends (outset f.keeper now) x c.follow_mails_to_end.new.follower.keeper later (H.may_leave new)) feed went.1 in (
      follow_leaves H.moment H.left_since (H.may_leave old) given old mid new s b.stand_is began.0 leaves,
      goes_to_end given s b.stand_is (H.may_leave new) b.own fits c.follow_mails_to_end.new.follower (fill_of f.keeper.store) now later ends,
    )

-- ---- what is read and written

pub returns-in_err-follower-clause-spends : goal.returns-in_err-follower-clause-spends
returns-in_err-follower-clause-spends g c = λ bytes places next known seen gives.
    let written = g.H.Shelf.written in
    let began = c.in_err-follower.ensures in
    opening_spends (given_of c.args.me.now c.args.at (mbox_found bytes places next)) (counts c.args.steps.now (written c.args.shelf.now)) (counts c.begin.new.steps (written c.begin.new.shelf))
    (began.cost places seen) began.written

pub returns-in_err-check_inputs-clause-spends : goal.returns-in_err-check_inputs-clause-spends
returns-in_err-check_inputs-clause-spends g c = λ bytes places next known seen gives.
    let written = g.H.Shelf.written in
    let began = c.in_ok-follower.ensures in
    opening_spends (given_of c.args.me.now c.args.at (mbox_found bytes places next)) (counts c.args.steps.now (written c.args.shelf.now)) (counts c.begin.new.steps (written c.begin.new.shelf))
    (began.cost places seen) began.written

pub returns-in_err-follow_mails_to_end-clause-spends : goal.returns-in_err-follow_mails_to_end-clause-spends
returns-in_err-follow_mails_to_end-clause-spends g c = λ bytes places next known seen gives.
    let H = g.H.Shelf in
    let given = given_of c.args.me.now c.args.at (mbox_found bytes places next) in
    let f = c.in_ok-follower.follower in
    let s = f.keeper.state in
    let mid = c.begin.new.shelf in
    let new = c.follow_mails_to_end.new.shelf in
    let began = c.in_ok-follower.ensures in
    let b = (began.goes bytes places known seen).1 in
    let files = files_of bytes None in
    let passed = passed_alone c.args.me.now bytes (stands c.args.me.now places) f (g.M.Source.left c.begin.new.mbox) (H.seen mid) b in
    let fits = fits_same given s (traced_alone given s b.own b.within refl) (c.in_ok-check_inputs.ensures.gives bytes None refl passed) in
    let went = c.in_err-follow_mails_to_end.ensures.goes files b.rest (mails_left s.position bytes) b.left_is (b.mbox_stands files refl) (sym b.ahead) (own_state c.args.me.now s (H.seen mid) b.own b.known) in
    let moment = c.moment_or_now-moment in
    following_spends given s b.stand_is (counts c.args.steps.now (H.written c.args.shelf.now)) (counts c.begin.new.steps (H.written mid)) (began.cost places seen) began.written
    (fill_of f.keeper.store) (mails_feed files s (mails_left s.position bytes) (Some moment.result)) (counts c.follow_mails_to_end.new.steps (H.written new)) fits
    (began.fill places seen) (ap (λ (n : ℕ). mails_feed files s (mails_left s.position bytes) (Some n)) (moment.ensures.value next gives)) went.1.spends

pub returns-clause-spends : goal.returns-clause-spends
returns-clause-spends g c = λ bytes places next known seen gives.
    let H = g.H.Shelf in
    let given = given_of c.args.me.now c.args.at (mbox_found bytes places next) in
    let f = c.in_ok-follower.follower in
    let s = f.keeper.state in
    let mid = c.begin.new.shelf in
    let new = c.follow_mails_to_end.new.shelf in
    let began = c.in_ok-follower.ensures in
    let b = (began.goes bytes places known seen).1 in
    let files = files_of bytes None in
    let passed = passed_alone c.args.me.now bytes (stands c.args.me.now places) f (g.M.Source.left c.begin.new.mbox) (H.seen mid) b in
    let fits = fits_same given s (traced_alone given s b.own b.within refl) (c.in_ok-check_inputs.ensures.gives bytes None refl passed) in
    let went = c.in_ok-follow_mails_to_end.ensures.goes files b.rest (mails_left s.position bytes) b.left_is (b.mbox_stands files refl) (sym b.ahead) (own_state c.args.me.now s (H.seen mid) b.own b.known) in
    let moment = c.moment_or_now-moment in
    following_spends given s b.stand_is (counts c.args.steps.now (H.written c.args.shelf.now)) (counts c.begin.new.steps (H.written mid)) (began.cost places seen) began.written
    (fill_of f.keeper.store) (mails_feed files s (mails_left s.position bytes) (Some moment.result)) (counts c.follow_mails_to_end.new.steps (H.written new)) fits
    (began.fill places seen) (ap (λ (n : ℕ). mails_feed files s (mails_left s.position bytes) (Some n)) (moment.ensures.value next gives)) went.1.spends

-- ---- causes

pub returns-in_err-follower-clause-cause : goal.returns-in_err-follower-clause-cause
returns-in_err-follower-clause-cause g c =
    let p = err_from_is_err_and c.from_residual.result c.from_residual.ensures.1 in
    rw (p.1, p.2) c.in_err-follower.ensures.cause

pub returns-in_err-check_inputs-clause-cause : goal.returns-in_err-check_inputs-clause-cause
returns-in_err-check_inputs-clause-cause g c =
    let p = err_from_is_err_and c.from_residual-in_err-check_inputs.result c.from_residual-in_err-check_inputs.ensures.1 in
    let left = g.M.Source.left in
    let H = g.H.Shelf in
    rw (p.1, p.2) (other_cause _ _ (Rose (H.faults c.args.shelf.now) (H.faults c.begin.new.shelf)) (Gave (left c.args.mbox.now) (left c.begin.new.mbox)) GaveNone
    (Kept c.args.me.now (H.seen c.args.shelf.now)) c.args.me.now c.in_err-check_inputs.field-0.0 c.in_err-check_inputs.ensures.possible)

pub returns-in_err-follow_mails_to_end-clause-cause : goal.returns-in_err-follow_mails_to_end-clause-cause
returns-in_err-follow_mails_to_end-clause-cause g c =
    let p = err_from_is_err_and c.from_residual-in_err-follow_mails_to_end.result c.from_residual-in_err-follow_mails_to_end.ensures.1 in
    let M = g.M.Source in
    let H = g.H.Shelf in
    let old = M.left c.args.mbox.now in
    let mid = M.left c.begin.new.mbox in
    let after = M.left c.follow_mails_to_end.new.mbox in
    let began = c.in_ok-follower.ensures in
    let went = c.in_err-follow_mails_to_end.ensures in
    let new = c.follow_mails_to_end.new.follower in
    let why = c.in_err-follow_mails_to_end.field-0.0 in
    let took = took_more old mid after (mbox.buffered c.in_ok-follower.follower.mbox) (mbox.buffered new.mbox) mbox_budget began.mbox_took went.took in
    let me = c.args.me.now in
    let seen = H.seen c.args.shelf.now in
    let start = c.in_ok-follower.follower.keeper.state in
    let mails = took_gave old after (mbox.buffered new.mbox) mbox_budget took in
    let lines = none_taken new.lines c.in_ok-follower.follower.lines went.lines began.lines.1 in
    let here = caused _ ⊥ _ _ (Gave old after) GaveNone (Kept me seen) new me mails lines (took_budget old after (mbox.buffered new.mbox) mbox_budget took)
    (ap (λ (r : steps.Reading). r.budget) went.lines ∙ began.lines.2) (filled_or (Gave old after) GaveNone (Kept me seen) new start mails lines (kept_by me seen start began.opens))
    why went.cause (λ input is. absurd (subst IsFollowFault is went.possible)) in
    rw (p.1, p.2) (cause_later (Gave old after) GaveNone (Kept me seen) (refusal_of me why) (M.faults c.args.mbox.now) (M.faults c.begin.new.mbox) (M.faults c.follow_mails_to_end.new.mbox) ⊥
    (H.faults c.args.shelf.now) (H.faults c.begin.new.shelf) (H.faults c.follow_mails_to_end.new.shelf) began.mbox_later began.shelf_later here)

pub returns-in_err-follow_mails_to_end-clause-took : goal.returns-in_err-follow_mails_to_end-clause-took
returns-in_err-follow_mails_to_end-clause-took g c =
    let left = g.M.Source.left in
    let new = mbox.buffered c.follow_mails_to_end.new.follower.mbox in
    took_within (left c.args.mbox.now) (left c.follow_mails_to_end.new.mbox) new mbox_budget
    (took_more (left c.args.mbox.now) (left c.begin.new.mbox) (left c.follow_mails_to_end.new.mbox) (mbox.buffered c.in_ok-follower.follower.mbox) new mbox_budget
    c.in_ok-follower.ensures.mbox_took c.in_err-follow_mails_to_end.ensures.took)

pub returns-clause-took : goal.returns-clause-took
returns-clause-took g c =
    let left = g.M.Source.left in
    let new = mbox.buffered c.follow_mails_to_end.new.follower.mbox in
    took_within (left c.args.mbox.now) (left c.follow_mails_to_end.new.mbox) new mbox_budget
    (took_more (left c.args.mbox.now) (left c.begin.new.mbox) (left c.follow_mails_to_end.new.mbox) (mbox.buffered c.in_ok-follower.follower.mbox) new mbox_budget
    c.in_ok-follower.ensures.mbox_took c.in_ok-follow_mails_to_end.ensures.took)
