use Rattle.std.proofs.Common.{◌∙◌, ap}
use Rattle.std.specs.Prelude.{not, filter}
use Rattle.std.specs.Ordering.{eq_by_cmp}
use Rattle.lists.specs.Ordered.{values_at}
use Rattle.lists.specs.Sorted.{insert_by}
use Rattle.card_type.specs.Spots.{spot_cmp}
use Rattle.thread_links.proofs.Citing.{cited_more}
use Rattle.thread_links.proofs.kept.cite.Goals as goal

pub loop-id-preserved : goal.loop-id-preserved
loop-id-preserved c =
    let x = c.id-item.result in
    let s = c.args.spot.now in
    cited_more s (values_at c.args.cited.now) (values_at c.loop-id.cited) (values_at c.put.new.self) c.args.ids.now c.loop-id.id-index x c.loop-id-test.true c.id-item.is c.requires.absent c.loop-id.invariant
    (c.in_ok-put.ensures.at ∙ ap (λ k. insert_by spot_cmp k (filter (λ other. not (eq_by_cmp spot_cmp k other)) (values_at c.loop-id.cited x))) c.in_ok-copy.ensures)
    (λ id n. c.in_ok-put.ensures.others id n)
