use Rattle.lists.specs.Ordered.{values_at}
use Rattle.thread_links.proofs.Citing.{uncited_more}
use Rattle.thread_links.proofs.kept.uncite.Goals as goal

pub loop-id-preserved : goal.loop-id-preserved
loop-id-preserved c =
    uncited_more c.args.spot.now (values_at c.args.cited.now) (values_at c.loop-id.cited) (values_at c.remove.new.self) c.args.ids.now c.loop-id.id-index c.id-item.result c.loop-id-test.true c.id-item.is
    c.loop-id.invariant c.remove.ensures.at c.remove.ensures.others
