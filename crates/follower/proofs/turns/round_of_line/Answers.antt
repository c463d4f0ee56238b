use Rattle.std.proofs.Common.{subst}
use Rattle.std.specs.Prelude.{OnOk}
use Rattle.std.proofs.lemmas.Result.{err_from_is_err_and}
use Rattle.state_store.specs.States.{State}
use Rattle.follower.specs.Committing.{LinesToCome}
use Rattle.follower.specs.Following.{IsFedFrom}
use Rattle.follower.specs.Spending.{counts}
use Rattle.follower.proofs.Rounds.{free_stop, line_costs, line_turn, lines_same, round_goes, still_stored}
use Rattle.follower.proofs.turns.round_of_line.Goals as goal

pub returns-in_err-commit_if_full-clause-goes : goal.returns-in_err-commit_if_full-clause-goes
returns-in_err-commit_if_full-clause-goes g c = λ files last start feed on.
    let H = g.H.Shelf in
    let p = err_from_is_err_and c.from_residual.result c.from_residual.ensures.1 in
    let shelf = c.commit_if_full.new.shelf in
    let done = c.in_err-commit_if_full.ensures.goes start feed on.others on.known in
    rw (p.1, p.2) (done.0, free_stop start feed (counts c.commit_if_full.new.steps (H.written shelf)) (H.may_leave shelf) (H.seen shelf) c.in_err-commit_if_full.field-0.0 c.in_err-commit_if_full.ensures.possible done.1)

pub returns-clause-goes : goal.returns-clause-goes
returns-clause-goes g c = λ files last start feed on.
    let H = g.H.Shelf in
    let mails = g.M.Source.left in
    let left = g.S.Source.left in
    let shelf = c.commit_if_full.new.shelf in
    let mid = c.commit_if_full.new.follower in
    let new = c.turn_line.new.self in
    let committed = c.in_ok-commit_if_full.ensures in
    let way = committed.goes start feed on.others on.known in
    let comes = lines_same files (mails c.args.mbox.now) (left c.args.steps_file.now) last c.args.follower.now mid on.others committed.state committed.mbox committed.lines on.to_come in
    let turn = line_turn files (mails c.args.mbox.now) (mails c.turn_line.new.mbox) (left c.args.steps_file.now) (left c.turn_line.new.steps_file) last mid new c.turn_line.result on.others
    (c.turn_line.ensures.goes files last) comes in
    let costs = line_costs files (mails c.args.mbox.now) (mails c.turn_line.new.mbox) (left c.args.steps_file.now) (left c.turn_line.new.steps_file) last mid c.turn_line.result
    c.commit_if_full.new.steps c.turn_line.new.steps on.others (c.turn_line.ensures.cost files last) comes in (
      way.0,
      round_goes start feed (counts c.commit_if_full.new.steps (H.written shelf)) (H.may_leave shelf) (H.seen shelf) last (LinesToCome files last new (mails c.turn_line.new.mbox) (left c.turn_line.new.steps_file)) mid new
          on.others turn.0 c.turn_line.result c.turn_line.new.steps way.1 turn.1 turn.2 costs c.turn_line.ensures.adds c.turn_line.ensures.store committed.few committed.stored,
    )

pub returns-clause-stored : goal.returns-clause-stored
returns-clause-stored g c =
    let H = g.H.Shelf in
    let shelf = c.commit_if_full.new.shelf in
    still_stored c.turn_line.result (H.seen shelf) (H.may_leave shelf) c.commit_if_full.new.follower.keeper c.turn_line.new.self.keeper c.turn_line.ensures.store c.in_ok-commit_if_full.ensures.stored

pub returns-clause-fed : goal.returns-clause-fed
returns-clause-fed g c =
    subst (λ (s : State). OnOk c.turn_line.result (IsFedFrom s c.turn_line.new.self)) c.in_ok-commit_if_full.ensures.state c.turn_line.ensures.fed
