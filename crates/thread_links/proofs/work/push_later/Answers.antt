use Rattle.std.proofs.Common.{◌∙◌, sym, ap, true, cond}
use Rattle.std.specs.BTreeSet.{contains}
use Rattle.card_type.specs.Spots.{spot_cmp}
use Rattle.thread_links.proofs.Citing.{ties}
use Rattle.thread_links.proofs.Turns.{later_pushed, not_pushed}
use Rattle.thread_links.proofs.work.push_later.Goals as goal
use Rattle.thread_links.proofs.work.push_later.Goals.{then-lt+in_ok-copy+in_ok-insert, else-lt}

pub loop-spot-preserved : goal.loop-spot-preserved
loop-spot-preserved c s =
    let old = contains spot_cmp c.args.work.now s in
    let now = contains spot_cmp c.loop-spot.work s in
    let x = c.spot-item.result in
    elim c.if-lt.branch [
      | then-lt+in_ok-copy+in_ok-insert w ↦ rw w.work-is (
          w.in_ok-insert.ensures.updates.0 s ∙ ap (λ k. cond (ties k s) true now) w.in_ok-copy.ensures
          ∙ later_pushed c.args.spots.now c.loop-spot.spot-index x c.args.from.now s c.loop-spot-test.true c.spot-item.is old now (c.loop-spot.invariant s) (sym c.lt.ensures ∙ w.if-lt.true)
          )
      | else-lt w ↦ rw w.work-is (not_pushed c.args.spots.now c.loop-spot.spot-index x c.args.from.now s c.loop-spot-test.true c.spot-item.is old now (c.loop-spot.invariant s) (sym c.lt.ensures ∙ w.if-lt.false))
    ]
