use Rattle.std.proofs.Common.{◌≡◌, arith}
use Rattle.follower.specs.Spending.{counts}
use Rattle.follower.proofs.Rounds.{full_goes, full_leaves, nothing_leaves}
use Rattle.follower.proofs.turns.commit_if_full.Goals as goal

pub returns-clause-goes : goal.returns-clause-goes
returns-clause-goes g c = λ start feed others known.
    let H = g.H.Shelf in
    let k = c.args.follower.now.keeper in
    let old = c.args.shelf.now in
    let shelf = c.commit.new.shelf in
    let now = counts c.args.steps.now (H.written old) in
    let later = counts c.commit.new.steps (H.written shelf) in
    let did = c.commit.ensures in
    let full : k.pending.count ≡ 256 = omega (arith, c.pending.ensures, c.if-pending-lt-MAX_PENDING.false, c.requires.few) in (
      full_leaves H.moment H.left_since H.seen H.may_leave start feed others k now old shelf known full c.requires.stored did.any_moment,
      full_goes H.moment H.left_since H.seen H.may_leave start feed others k now old shelf known later did.reads did.written c.commit.result c.commit.new.self.keeper
          full did.lasting did.state did.pending did.fill,
    )

pub returns-then-pending-lt-MAX_PENDING-clause-goes : goal.returns-then-pending-lt-MAX_PENDING-clause-goes
returns-then-pending-lt-MAX_PENDING-clause-goes g c = λ start feed others known.
    let H = g.H.Shelf in
    let k = c.args.follower.now.keeper in
    let shelf = c.args.shelf.now in
    let now = counts c.args.steps.now (H.written shelf) in
    (nothing_leaves H.moment H.left_since H.seen H.may_leave start feed others k now shelf (g.met.H.Shelf.only_now shelf) known c.requires.stored, known)
