use Rattle.state_image.specs.Images.{item_spelled}
use Rattle.state_image.proofs.Written.{more_text, more_cards}
use Rattle.state_image.proofs.write.push_items.Goals as goal

pub loop-item-preserved : goal.loop-item-preserved
loop-item-preserved g c = record {
  text = more_text c.args.items.now c.loop-item.item-index _ c.loop-item-test.true (item_spelled c.args.mailbox.now.mailbox) _ _ _ c.in_ok-push_item.ensures.text c.loop-item.invariant.text;
  cost = more_cards c.args.items.now c.loop-item.item-index _ c.loop-item-test.true _ _ _ c.in_ok-push_item.ensures.cost c.loop-item.invariant.cost;
}
