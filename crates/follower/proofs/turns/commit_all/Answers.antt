use Rattle.follower.specs.Spending.{counts}
use Rattle.follower.proofs.Rounds.{all_leaves, end_goes}
use Rattle.follower.proofs.turns.commit_all.Goals as goal

pub returns-clause-goes : goal.returns-clause-goes
returns-clause-goes g c = λ start feed on.
    let H = g.H.Shelf in
    let k = c.args.follower.now.keeper in
    let old = c.args.shelf.now in
    let shelf = c.commit.new.shelf in
    let now = counts c.args.steps.now (H.written old) in
    let later = counts c.commit.new.steps (H.written shelf) in
    let did = c.commit.ensures in (
      all_leaves H.moment H.left_since H.seen H.may_leave start feed on.others k now old shelf on.known on.to_come c.requires.stored did.any_moment,
      end_goes H.moment H.left_since H.seen H.may_leave start feed on.others k now old shelf on.known later did.reads did.written c.commit.result c.commit.new.self.keeper
          on.to_come did.few (λ zero. let none = did.none zero in λ i. counts (none.2 i) (H.written (none.1 i))) did.lasting did.state did.stored did.possible,
    )
