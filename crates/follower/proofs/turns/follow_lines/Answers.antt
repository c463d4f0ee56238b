use Rattle.std.proofs.lemmas.Result.{err_from_is_err_and}
use Rattle.std.proofs.Common.{arith, inr, refl}
use Rattle.outside.proofs.Moments.{and_then}
use Rattle.follower.specs.Committing.{LinesToCome, Prefix}
use Rattle.follower.specs.Spending.{counts}
use Rattle.follower.proofs.Going.{fed_on, mbox_takes, mbox_takes_none, steps_takes, steps_takes_none}
use Rattle.follower.proofs.Rounds.{applied, ended, nothing_leaves}
use Rattle.follower.proofs.turns.follow_lines.Goals as goal

pub returns-in_err-round_of_line-clause-mbox_took : goal.returns-in_err-round_of_line-clause-mbox_took
returns-in_err-round_of_line-clause-mbox_took g c =
    mbox_takes (g.M.Source.left c.args.mbox.now) (g.M.Source.left c.loop.mbox) (g.M.Source.left c.round_of_line.new.mbox) c.args.follower.now.mbox c.loop.follower.mbox c.round_of_line.new.follower.mbox c.loop.invariant.mbox_took c.in_err-round_of_line.ensures.mbox_took

pub returns-in_err-round_of_line-clause-steps_took : goal.returns-in_err-round_of_line-clause-steps_took
returns-in_err-round_of_line-clause-steps_took g c =
    steps_takes (g.S.Source.left c.args.steps_file.now) (g.S.Source.left c.loop.steps_file) (g.S.Source.left c.round_of_line.new.steps_file) c.args.follower.now.lines c.loop.follower.lines c.round_of_line.new.follower.lines c.loop.invariant.steps_took c.in_err-round_of_line.ensures.steps_took

pub loop-preserved : goal.loop-preserved
loop-preserved g c =
    let H = g.H.Shelf in
    let mails = g.M.Source.left in
    let left = g.S.Source.left in
    let past = c.loop.invariant in
    let round = c.in_ok-round_of_line.ensures in
    let new = c.round_of_line.new in record {
      usable = round.usable;
      few = round.few;
      place = round.place;
      kept = round.kept;
      stored = round.stored;
      mbox_later = omega (arith, past.mbox_later, round.mbox_later);
      steps_later = omega (arith, past.steps_later, round.steps_later);
      shelf_later = omega (arith, past.shelf_later, round.shelf_later);
      mbox_took = mbox_takes (mails c.args.mbox.now) (mails c.loop.mbox) (mails new.mbox) c.args.follower.now.mbox c.loop.follower.mbox new.follower.mbox past.mbox_took round.mbox_took;
      steps_took = steps_takes (left c.args.steps_file.now) (left c.loop.steps_file) (left new.steps_file) c.args.follower.now.lines c.loop.follower.lines new.follower.lines past.steps_took round.steps_took;
      fed = fed_on c.args.follower.now.keeper.state c.loop.follower new.follower (omega (arith, round.steps_took.1.taken)) past.fed round.fed;
      goes = λ files last start feed on.
          let first = past.goes files last start feed on in
          let second = round.goes files last start feed first.1 in (
            and_then H.moment H.left_since c.args.shelf.now c.loop.shelf new.shelf (Prefix start.state feed) (Prefix start.state feed) (Prefix start.state feed) first.0 second.0 (λ _ p. p) (λ _ p. p),
            applied start feed (counts new.steps (H.written new.shelf)) (H.may_leave new.shelf) (H.seen new.shelf) last (LinesToCome files last new.follower (mails new.mbox) (left new.steps_file)) new.follower.keeper
                c.in_ok-round_of_line.field-0 c.in-Applied.is second.1,
          );
    }

pub returns-in-End-clause-mbox_took : goal.returns-in-End-clause-mbox_took
returns-in-End-clause-mbox_took g c =
    mbox_takes (g.M.Source.left c.args.mbox.now) (g.M.Source.left c.loop.mbox) (g.M.Source.left c.round_of_line.new.mbox) c.args.follower.now.mbox c.loop.follower.mbox c.round_of_line.new.follower.mbox c.loop.invariant.mbox_took c.in_ok-round_of_line.ensures.mbox_took

pub returns-in-End-clause-steps_took : goal.returns-in-End-clause-steps_took
returns-in-End-clause-steps_took g c =
    steps_takes (g.S.Source.left c.args.steps_file.now) (g.S.Source.left c.loop.steps_file) (g.S.Source.left c.round_of_line.new.steps_file) c.args.follower.now.lines c.loop.follower.lines c.round_of_line.new.follower.lines c.loop.invariant.steps_took c.in_ok-round_of_line.ensures.steps_took

pub returns-in_err-round_of_line-clause-goes : goal.returns-in_err-round_of_line-clause-goes
returns-in_err-round_of_line-clause-goes g c = λ files last start feed on.
    let H = g.H.Shelf in
    let p = err_from_is_err_and c.from_residual.result c.from_residual.ensures.1 in
    let first = c.loop.invariant.goes files last start feed on in
    let second = c.in_err-round_of_line.ensures.goes files last start feed first.1 in
    rw (p.1, p.2) (
      and_then H.moment H.left_since c.args.shelf.now c.loop.shelf c.round_of_line.new.shelf (Prefix start.state feed) (Prefix start.state feed) (Prefix start.state feed) first.0 second.0 (λ _ p. p) (λ _ p. p),
      second.1,
    )

pub returns-in-End-clause-goes : goal.returns-in-End-clause-goes
returns-in-End-clause-goes g c = λ files last start feed on.
    let H = g.H.Shelf in
    let new = c.round_of_line.new in
    let first = c.loop.invariant.goes files last start feed on in
    let second = c.in_ok-round_of_line.ensures.goes files last start feed first.1 in (
      and_then H.moment H.left_since c.args.shelf.now c.loop.shelf new.shelf (Prefix start.state feed) (Prefix start.state feed) (Prefix start.state feed) first.0 second.0 (λ _ p. p) (λ _ p. p),
      ended start feed (counts new.steps (H.written new.shelf)) (H.may_leave new.shelf) (H.seen new.shelf) last (LinesToCome files last new.follower (g.M.Source.left new.mbox) (g.S.Source.left new.steps_file)) new.follower.keeper
          c.in_ok-round_of_line.field-0 c.in-End.is second.1,
    )

pub loop-init : goal.loop-init
loop-init g c =
    let H = g.H.Shelf in
    let shelf = c.args.shelf.now in record {
      usable = c.requires.usable;
      few = c.requires.few;
      place = c.requires.place;
      kept = c.requires.kept;
      stored = c.requires.stored;
      mbox_later = omega arith;
      steps_later = omega arith;
      shelf_later = omega arith;
      mbox_took = mbox_takes_none (g.M.Source.left c.args.mbox.now) c.args.follower.now.mbox;
      fed = inr refl;
      steps_took = steps_takes_none (g.S.Source.left c.args.steps_file.now) c.args.follower.now.lines;
      goes = λ files last start feed on. (
        nothing_leaves H.moment H.left_since H.seen H.may_leave start feed on.others c.args.follower.now.keeper (counts c.args.steps.now (H.written shelf)) shelf (g.met.H.Shelf.only_now shelf) on.known c.requires.stored,
        on,
      );
    }

pub returns-in-End-clause-fed : goal.returns-in-End-clause-fed
returns-in-End-clause-fed g c =
    let round = c.in_ok-round_of_line.ensures in
    fed_on c.args.follower.now.keeper.state c.loop.follower c.round_of_line.new.follower (omega (arith, round.steps_took.1.taken)) c.loop.invariant.fed round.fed
