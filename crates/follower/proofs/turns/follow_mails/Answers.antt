use Rattle.std.proofs.Common.{None, arith, refl, ◌∙◌}
use Rattle.std.proofs.lemmas.Result.{err_from_is_err_and}
use Rattle.outside.proofs.Moments.{and_then}
use Rattle.follower.specs.Committing.{MailsToCome, Prefix}
use Rattle.follower.specs.Spending.{counts}
use Rattle.follower.proofs.Going.{mbox_takes, mbox_takes_none}
use Rattle.follower.proofs.Rounds.{applied, ended, nothing_leaves}
use Rattle.follower.proofs.turns.follow_mails.Goals as goal

pub returns-in_err-round_of_mail-clause-took : goal.returns-in_err-round_of_mail-clause-took
returns-in_err-round_of_mail-clause-took g c =
    mbox_takes (g.M.Source.left c.args.mbox.now) (g.M.Source.left c.loop.mbox) (g.M.Source.left c.round_of_mail.new.mbox) c.args.follower.now.mbox c.loop.follower.mbox c.round_of_mail.new.follower.mbox c.loop.invariant.took c.in_err-round_of_mail.ensures.took

pub loop-preserved : goal.loop-preserved
loop-preserved g c =
    let H = g.H.Shelf in
    let past = c.loop.invariant in
    let round = c.in_ok-round_of_mail.ensures in
    let new = c.round_of_mail.new in record {
      usable = round.usable;
      few = round.few;
      kept = round.kept;
      stored = round.stored;
      lines = round.lines ∙ past.lines;
      later = omega (arith, past.later, round.later);
      shelf_later = omega (arith, past.shelf_later, round.shelf_later);
      took = mbox_takes (g.M.Source.left c.args.mbox.now) (g.M.Source.left c.loop.mbox) (g.M.Source.left new.mbox) c.args.follower.now.mbox c.loop.follower.mbox new.follower.mbox past.took round.took;
      goes = λ files start feed on.
          let first = past.goes files start feed on in
          let second = round.goes files start feed first.1 in (
            and_then H.moment H.left_since c.args.shelf.now c.loop.shelf new.shelf (Prefix start.state feed) (Prefix start.state feed) (Prefix start.state feed) first.0 second.0 (λ _ p. p) (λ _ p. p),
            applied start feed (counts new.steps (H.written new.shelf)) (H.may_leave new.shelf) (H.seen new.shelf) None (MailsToCome files new.follower (g.M.Source.left new.mbox)) new.follower.keeper c.in_ok-round_of_mail.field-0 c.in-Applied.is second.1,
          );
    }

pub returns-in-End-clause-took : goal.returns-in-End-clause-took
returns-in-End-clause-took g c =
    mbox_takes (g.M.Source.left c.args.mbox.now) (g.M.Source.left c.loop.mbox) (g.M.Source.left c.round_of_mail.new.mbox) c.args.follower.now.mbox c.loop.follower.mbox c.round_of_mail.new.follower.mbox c.loop.invariant.took c.in_ok-round_of_mail.ensures.took

pub returns-in_err-round_of_mail-clause-goes : goal.returns-in_err-round_of_mail-clause-goes
returns-in_err-round_of_mail-clause-goes g c = λ files start feed on.
    let H = g.H.Shelf in
    let p = err_from_is_err_and c.from_residual.result c.from_residual.ensures.1 in
    let first = c.loop.invariant.goes files start feed on in
    let second = c.in_err-round_of_mail.ensures.goes files start feed first.1 in
    rw (p.1, p.2) (
      and_then H.moment H.left_since c.args.shelf.now c.loop.shelf c.round_of_mail.new.shelf (Prefix start.state feed) (Prefix start.state feed) (Prefix start.state feed) first.0 second.0 (λ _ p. p) (λ _ p. p),
      second.1,
    )

pub returns-in-End-clause-goes : goal.returns-in-End-clause-goes
returns-in-End-clause-goes g c = λ files start feed on.
    let H = g.H.Shelf in
    let new = c.round_of_mail.new in
    let first = c.loop.invariant.goes files start feed on in
    let second = c.in_ok-round_of_mail.ensures.goes files start feed first.1 in (
      and_then H.moment H.left_since c.args.shelf.now c.loop.shelf new.shelf (Prefix start.state feed) (Prefix start.state feed) (Prefix start.state feed) first.0 second.0 (λ _ p. p) (λ _ p. p),
      ended start feed (counts new.steps (H.written new.shelf)) (H.may_leave new.shelf) (H.seen new.shelf) None (MailsToCome files new.follower (g.M.Source.left new.mbox)) new.follower.keeper c.in_ok-round_of_mail.field-0 c.in-End.is second.1,
    )

pub loop-init : goal.loop-init
loop-init g c =
    let H = g.H.Shelf in
    let shelf = c.args.shelf.now in record {
      usable = c.requires.usable;
      few = c.requires.few;
      kept = c.requires.kept;
      stored = c.requires.stored;
      lines = refl;
      later = omega arith;
      shelf_later = omega arith;
      took = mbox_takes_none (g.M.Source.left c.args.mbox.now) c.args.follower.now.mbox;
      goes = λ files start feed on. (
        nothing_leaves H.moment H.left_since H.seen H.may_leave start feed on.others c.args.follower.now.keeper (counts c.args.steps.now (H.written shelf)) shelf (g.met.H.Shelf.only_now shelf) on.known c.requires.stored,
        on,
      );
    }
