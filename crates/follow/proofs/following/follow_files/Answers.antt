use Rattle.std.proofs.Common.{Option}
use Rattle.outside.specs.Causes.{Rose}
use Rattle.outside.specs.Moments.{LeavesOnly}
use Rattle.mailbox_model.specs.Lists.{Bytes}
use Rattle.follow.specs.Outcome.{Gave, GaveNone, Kept, MayStand, follow_spends, given_of}
use Rattle.follower.specs.Spending.{RoseWithin, counts}
use Rattle.follow.specs.Replies.{FollowGoes}
use Rattle.follow.proofs.Clocks.{no_lines, told_lines}
use Rattle.follow.specs.Statuses.{refusal_of}
use Rattle.follow.proofs.Replied.{cause_on, each_error, gave_none}
use Rattle.follow.proofs.following.follow_files.Goals as goal

pub returns-then-given-clause-goes : goal.returns-then-given-clause-goes
returns-then-given-clause-goes g c = λ found told.
    let H = g.H.Shelf in
    let old = c.args.shelf.now in
    let new = c.follow_steps.new.shelf in
    told_lines (g.S.Source.left c.args.steps_file.now) found.steps
    (λ (x : Option Bytes). LeavesOnly H.moment H.left_since old new (MayStand (given_of c.args.me.now c.args.at (record found { steps = x })) (H.may_leave old))
    × FollowGoes c.follow_steps.result (given_of c.args.me.now c.args.at (record found { steps = x })) (H.may_leave new))
    (rw c.if-given.true at told.steps_is) (λ steps is. c.follow_steps.ensures.goes found.mbox steps found.places found.clock told.mbox_is is told.places_is)

pub returns-then-given-clause-spends : goal.returns-then-given-clause-spends
returns-then-given-clause-spends g c = λ found told.
    let written = g.H.Shelf.written in
    told_lines (g.S.Source.left c.args.steps_file.now) found.steps
    (λ (x : Option Bytes). RoseWithin (counts c.args.steps.now (written c.args.shelf.now)) (follow_spends (given_of c.args.me.now c.args.at (record found { steps = x })))
    (counts c.follow_steps.new.steps (written c.follow_steps.new.shelf)))
    (rw c.if-given.true at told.steps_is) (λ steps is. c.follow_steps.ensures.spends found.mbox steps found.places found.clock told.mbox_is is told.places_is)

pub returns-else-given-clause-goes : goal.returns-else-given-clause-goes
returns-else-given-clause-goes g c = λ found told.
    let H = g.H.Shelf in
    let old = c.args.shelf.now in
    let new = c.follow_mbox.new.shelf in
    no_lines (g.S.Source.left c.args.steps_file.now) found.steps
    (λ (x : Option Bytes). LeavesOnly H.moment H.left_since old new (MayStand (given_of c.args.me.now c.args.at (record found { steps = x })) (H.may_leave old))
    × FollowGoes c.follow_mbox.result (given_of c.args.me.now c.args.at (record found { steps = x })) (H.may_leave new))
    (rw c.if-given.false at told.steps_is) (c.follow_mbox.ensures.goes found.mbox found.places found.clock told.mbox_is told.places_is (rw c.if-given.false at told.clock_is))

pub returns-else-given-clause-spends : goal.returns-else-given-clause-spends
returns-else-given-clause-spends g c = λ found told.
    let written = g.H.Shelf.written in
    no_lines (g.S.Source.left c.args.steps_file.now) found.steps
    (λ (x : Option Bytes). RoseWithin (counts c.args.steps.now (written c.args.shelf.now)) (follow_spends (given_of c.args.me.now c.args.at (record found { steps = x })))
    (counts c.follow_mbox.new.steps (written c.follow_mbox.new.shelf)))
    (rw c.if-given.false at told.steps_is) (c.follow_mbox.ensures.spends found.mbox found.places found.clock told.mbox_is told.places_is (rw c.if-given.false at told.clock_is))

pub returns-else-given-clause-cause : goal.returns-else-given-clause-cause
returns-else-given-clause-cause g c =
    let M = g.M.Source in
    let H = g.H.Shelf in
    let mbox_gave = Gave (M.left c.args.mbox.now) (M.left c.follow_mbox.new.mbox) in
    let lines = g.S.Source.left c.args.steps_file.now in
    each_error c.follow_mbox.result _ _ (λ why cause. cause_on _ (Rose (M.faults c.args.mbox.now) (M.faults c.follow_mbox.new.mbox)) ⊥ _ _ (Rose (H.faults c.args.shelf.now) (H.faults c.follow_mbox.new.shelf))
    mbox_gave mbox_gave GaveNone (Gave lines lines) (Kept c.args.me.now (H.seen c.args.shelf.now)) (λ x. x) (λ never. absurd never) (λ x. x) (λ X x. x) (gave_none lines)
    (refusal_of c.args.me.now why) cause) c.follow_mbox.ensures.cause
