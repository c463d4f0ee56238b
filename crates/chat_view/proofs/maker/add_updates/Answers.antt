use Rattle.std.proofs.Common.{arith, ap, ◌∙◌, ◌+◌, length, length-append}
use Rattle.std.specs.Prelude.{flat_map}
use Rattle.mailbox_model.specs.Rows.{brought_by}
use Rattle.chat_view.specs.Makers.{placed}
use Rattle.chat_view.proofs.Numbered.{update_next}
use Rattle.chat_view.proofs.maker.add_updates.Goals as goal

pub loop-update-preserved : goal.loop-update-preserved
loop-update-preserved c =
    let loop = c.loop-update in
    let kept = loop.invariant in
    let e = placed c.args.spot.now c.args.e.now in
    let more = c.in_ok-add_update.ensures in (
      ap (λ n. n + 1) kept.0,
      ap length more ∙ length-append loop.updates _ ∙ omega (arith, kept.1),
      λ before is. more ∙ update_next (flat_map brought_by before) e c.as_slice-update-items.result.now loop.update-index c.update-item.result loop.updates loop.part c.loop-update-test.true c.update-item.is kept.0 (kept.2 before is),
    )
