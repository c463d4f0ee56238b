use Rattle.std.proofs.Common.{None}
use Rattle.std.proofs.lemmas.Result.{err_from_is_err_and}
use Rattle.follower.specs.Committing.{MailsToCome}
use Rattle.follower.specs.Spending.{counts}
use Rattle.follower.proofs.Rounds.{free_stop, mail_costs, mail_turn, mails_same, round_goes, still_stored}
use Rattle.follower.proofs.turns.round_of_mail.Goals as goal

pub returns-in_err-commit_if_full-clause-goes : goal.returns-in_err-commit_if_full-clause-goes
returns-in_err-commit_if_full-clause-goes g c = λ files start feed on.
    let H = g.H.Shelf in
    let p = err_from_is_err_and c.from_residual.result c.from_residual.ensures.1 in
    let shelf = c.commit_if_full.new.shelf in
    let done = c.in_err-commit_if_full.ensures.goes start feed on.others on.known in
    rw (p.1, p.2) (done.0, free_stop start feed (counts c.commit_if_full.new.steps (H.written shelf)) (H.may_leave shelf) (H.seen shelf) c.in_err-commit_if_full.field-0.0 c.in_err-commit_if_full.ensures.possible done.1)

pub returns-clause-goes : goal.returns-clause-goes
returns-clause-goes g c = λ files start feed on.
    let H = g.H.Shelf in
    let left = g.M.Source.left in
    let shelf = c.commit_if_full.new.shelf in
    let mid = c.commit_if_full.new.follower in
    let new = c.turn_mail.new.self in
    let committed = c.in_ok-commit_if_full.ensures in
    let way = committed.goes start feed on.others on.known in
    let comes = mails_same files (left c.args.mbox.now) c.args.follower.now mid on.others committed.state committed.mbox on.to_come in
    let turn = mail_turn files (left c.args.mbox.now) (left c.turn_mail.new.mbox) mid new c.turn_mail.result on.others (c.turn_mail.ensures.goes files) comes in
    let costs = mail_costs files (left c.args.mbox.now) (left c.turn_mail.new.mbox) mid c.turn_mail.result c.commit_if_full.new.steps c.turn_mail.new.steps on.others (c.turn_mail.ensures.cost files) comes in (
      way.0,
      round_goes start feed (counts c.commit_if_full.new.steps (H.written shelf)) (H.may_leave shelf) (H.seen shelf) None (MailsToCome files new (left c.turn_mail.new.mbox)) mid new on.others turn.0 c.turn_mail.result
          c.turn_mail.new.steps way.1 turn.1 turn.2 costs c.turn_mail.ensures.adds c.turn_mail.ensures.store committed.few committed.stored,
    )

pub returns-clause-stored : goal.returns-clause-stored
returns-clause-stored g c =
    let H = g.H.Shelf in
    let shelf = c.commit_if_full.new.shelf in
    still_stored c.turn_mail.result (H.seen shelf) (H.may_leave shelf) c.commit_if_full.new.follower.keeper c.turn_mail.new.self.keeper c.turn_mail.ensures.store c.in_ok-commit_if_full.ensures.stored
