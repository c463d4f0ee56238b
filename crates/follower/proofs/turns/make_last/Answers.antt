use Rattle.std.proofs.Common.{◌≡◌, ℕ, Option, None, Some, refl, ap, sym, ◌∙◌}
use Rattle.std.proofs.lemmas.Result.{err_from_is_err_and}
use Rattle.state_store.specs.States.{State}
use Rattle.follower.specs.Feed.{last_fed}
use Rattle.follower.specs.Spending.{counts}
use Rattle.follower.proofs.Going.{at_caused}
use Rattle.follower.proofs.Rounds.{free_stop, last_goes, no_last, nothing_leaves, still_stored}
use Rattle.follower.proofs.turns.make_last.Goals as goal

pub returns-in_err-commit_if_full-clause-goes : goal.returns-in_err-commit_if_full-clause-goes
returns-in_err-commit_if_full-clause-goes g c = λ start feed on.
    let H = g.H.Shelf in
    let p = err_from_is_err_and c.from_residual.result c.from_residual.ensures.1 in
    let shelf = c.commit_if_full.new.shelf in
    let done = c.in_err-commit_if_full.ensures.goes start feed on.others on.known in
    rw (p.1, p.2) (done.0, free_stop start feed (counts c.commit_if_full.new.steps (H.written shelf)) (H.may_leave shelf) (H.seen shelf) c.in_err-commit_if_full.field-0.0 c.in_err-commit_if_full.ensures.possible done.1)

pub returns-clause-goes : goal.returns-clause-goes
returns-clause-goes g c = λ start feed on.
    let H = g.H.Shelf in
    let shelf = c.commit_if_full.new.shelf in
    let mid = c.commit_if_full.new.follower.keeper in
    let new = c.at.new.self.keeper in
    let committed = c.in_ok-commit_if_full.ensures in
    let way = committed.goes start feed on.others on.known in
    let moment = c.in-Some.moment in
    let is = on.to_come ∙ ap (λ o. last_fed o c.args.follower.now.keeper.state.position) c.in-Some.is ∙ ap (λ (s : State). last_fed (Some moment) s.position) (sym committed.state) in (
      way.0,
      last_goes start feed (counts c.commit_if_full.new.steps (H.written shelf)) (H.may_leave shelf) (H.seen shelf) moment on.others mid new is way.1 committed.few committed.stored
          c.at.new.steps c.at.ensures.cost c.at.result c.at.ensures.room c.at.ensures.state c.at.ensures.pending c.at.ensures.store c.at.ensures.full c.at.ensures.cause,
    )

pub returns-clause-stored : goal.returns-clause-stored
returns-clause-stored g c =
    let H = g.H.Shelf in
    let shelf = c.commit_if_full.new.shelf in
    still_stored c.at.result (H.seen shelf) (H.may_leave shelf) c.commit_if_full.new.follower.keeper c.at.new.self.keeper c.at.ensures.store c.in_ok-commit_if_full.ensures.stored

pub returns-in_default-clause-goes : goal.returns-in_default-clause-goes
returns-in_default-clause-goes g c = λ start feed on.
    let H = g.H.Shelf in
    let k = c.args.follower.now.keeper in
    let shelf = c.args.shelf.now in (
      nothing_leaves H.moment H.left_since H.seen H.may_leave start feed on.others k (counts c.args.steps.now (H.written shelf)) shelf (g.met.H.Shelf.only_now shelf) on.known c.requires.stored,
      no_last start feed (counts c.args.steps.now (H.written shelf)) (H.may_leave shelf) (H.seen shelf) c.args.last k (none c.args.last c.in_default.not-Some) on,
    )
  where
    none : (o : Option ℕ) → ((n : ℕ) → o ≡ Some n → ⊥) → o ≡ None
    none None never = refl
    none (Some n) never = absurd (never n refl)

pub returns-clause-cause : goal.returns-clause-cause
returns-clause-cause g c =
    at_caused _ _ _ c.args.follower.now.keeper.state c.commit_if_full.new.follower.keeper.state c.at.new.self c.in-Some.moment c.at.result c.in_ok-commit_if_full.ensures.state
    c.at.ensures.cause c.at.ensures.full
