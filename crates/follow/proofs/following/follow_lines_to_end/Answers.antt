use Rattle.std.proofs.Common.{inl}
use Rattle.std.proofs.lemmas.Result.{err_from_is_err_and}
use Rattle.outside.proofs.Moments.{and_then}
use Rattle.follower.specs.Committing.{LinesToCome, OnWay, Prefix, outset}
use Rattle.follower.specs.Spending.{counts}
use Rattle.follower.proofs.Going.{cause_since, filled_since, rose_since}
use Rattle.follow.proofs.Followed.{first_way}
use Rattle.follow.proofs.following.follow_lines_to_end.Goals as goal

pub returns-in_err-follow_lines-clause-goes : goal.returns-in_err-follow_lines-clause-goes
returns-in_err-follow_lines-clause-goes g c = λ files rest left feed is are mbox_stands steps_stand ahead known.
    let p = err_from_is_err_and c.from_residual.result c.from_residual.ensures.1 in
    let k = c.args.follower.now.keeper in
    let now = counts c.args.steps.now (g.H.Shelf.written c.args.shelf.now) in
    let on : OnWay (outset k now) feed (LinesToCome files c.args.last c.args.follower.now (g.M.Source.left c.args.mbox.now) (g.S.Source.left c.args.steps_file.now)) k now (g.H.Shelf.seen c.args.shelf.now) =
    record { others = feed; to_come = record { bytes = rest; lines = left; mbox_told = is; steps_told = are; mbox_stands = mbox_stands; steps_stands = steps_stand; is = ahead }; known = first_way k feed now (g.H.Shelf.seen c.args.shelf.now) c.requires.pending known } in
    rw (p.1, p.2) (c.in_err-follow_lines.ensures.goes files c.args.last (outset k now) feed on)

pub returns-in_err-make_last-clause-goes : goal.returns-in_err-make_last-clause-goes
returns-in_err-make_last-clause-goes g c = λ files rest left feed is are mbox_stands steps_stand ahead known.
    let H = g.H.Shelf in
    let p = err_from_is_err_and c.from_residual-in_err-make_last.result c.from_residual-in_err-make_last.ensures.1 in
    let k = c.args.follower.now.keeper in
    let now = counts c.args.steps.now (g.H.Shelf.written c.args.shelf.now) in
    let on : OnWay (outset k now) feed (LinesToCome files c.args.last c.args.follower.now (g.M.Source.left c.args.mbox.now) (g.S.Source.left c.args.steps_file.now)) k now (g.H.Shelf.seen c.args.shelf.now) =
    record { others = feed; to_come = record { bytes = rest; lines = left; mbox_told = is; steps_told = are; mbox_stands = mbox_stands; steps_stands = steps_stand; is = ahead }; known = first_way k feed now (H.seen c.args.shelf.now) c.requires.pending known } in
    let first = c.in_ok-follow_lines.ensures.goes files c.args.last (outset k now) feed on in
    let second = c.in_err-make_last.ensures.goes (outset k now) feed first.1 in
    rw (p.1, p.2) (
      and_then H.moment H.left_since c.args.shelf.now c.follow_lines.new.shelf c.make_last.new.shelf (Prefix k.state feed) (Prefix k.state feed) (Prefix k.state feed) first.0 second.0 (λ _ x. x) (λ _ x. x),
      second.1,
    )

pub returns-clause-goes : goal.returns-clause-goes
returns-clause-goes g c = λ files rest left feed is are mbox_stands steps_stand ahead known.
    let H = g.H.Shelf in
    let k = c.args.follower.now.keeper in
    let old = c.args.shelf.now in
    let new = c.commit_all.new.shelf in
    let now = counts c.args.steps.now (g.H.Shelf.written c.args.shelf.now) in
    let on : OnWay (outset k now) feed (LinesToCome files c.args.last c.args.follower.now (g.M.Source.left c.args.mbox.now) (g.S.Source.left c.args.steps_file.now)) k now (g.H.Shelf.seen c.args.shelf.now) =
    record { others = feed; to_come = record { bytes = rest; lines = left; mbox_told = is; steps_told = are; mbox_stands = mbox_stands; steps_stands = steps_stand; is = ahead }; known = first_way k feed now (H.seen old) c.requires.pending known } in
    let first = c.in_ok-follow_lines.ensures.goes files c.args.last (outset k now) feed on in
    let second = c.in_ok-make_last.ensures.goes (outset k now) feed first.1 in
    let third = c.commit_all.ensures.goes (outset k now) feed second.1 in
    let both = and_then H.moment H.left_since old c.follow_lines.new.shelf c.make_last.new.shelf (Prefix k.state feed) (Prefix k.state feed) (Prefix k.state feed) first.0 second.0 (λ _ x. x) (λ _ x. x) in (
      and_then H.moment H.left_since old c.make_last.new.shelf new (Prefix k.state feed) (Prefix k.state feed) (Prefix k.state feed) both third.0 (λ _ x. x) (λ _ x. x),
      third.1,
    )

pub returns-in_err-follow_lines-clause-cause : goal.returns-in_err-follow_lines-clause-cause
returns-in_err-follow_lines-clause-cause g c =
    let p = err_from_is_err_and c.from_residual.result c.from_residual.ensures.1 in
    rw (p.1, p.2) (cause_since _ _ _ _ _ _ _ _ c.follow_lines.new.follower c.in_err-follow_lines.field-0.0 (λ x. x) (λ x. x) (λ x. x) (λ x. inl x) c.in_err-follow_lines.ensures.cause)

pub returns-in_err-make_last-clause-cause : goal.returns-in_err-make_last-clause-cause
returns-in_err-make_last-clause-cause g c =
    let p = err_from_is_err_and c.from_residual-in_err-make_last.result c.from_residual-in_err-make_last.ensures.1 in
    let H = g.H.Shelf in
    let lines = c.in_ok-follow_lines.ensures in
    let last = c.in_err-make_last.ensures in
    let mid = c.follow_lines.new.follower in
    let new = c.make_last.new.follower in
    rw (p.1, p.2) (cause_since ⊥ _ ⊥ _ _ _ _ _ new c.in_err-make_last.field-0.0 (λ never. absurd never) (λ never. absurd never)
    (rose_since (H.faults c.args.shelf.now) (H.faults c.follow_lines.new.shelf) (H.faults c.make_last.new.shelf) lines.shelf_later)
    (filled_since c.args.follower.now.keeper.state mid new last.lines lines.fed) last.cause)
