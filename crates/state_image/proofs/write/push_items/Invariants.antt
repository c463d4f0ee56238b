use Rattle.std.proofs.Common.{◌≡◌, ◌++◌, ◌+◌, take, flat_map}
use Rattle.std.specs.Prelude.{sum_by}
use Rattle.state_image.specs.Images.{item_spelled, cards_of}
use Rattle.state_image.proofs.write.push_items.Given as goal

-- the first items are appended, and their cards read
abbrev pub invariant-loop-item : goal.invariant-loop-item
invariant-loop-item g l = record {
  text : l.out.items ≡ l.fn.out.items ++ flat_map (item_spelled l.mailbox.mailbox) (take l.item-index l.items);
  cost : l.steps ≡ l.fn.steps + sum_by cards_of (take l.item-index l.items);
}
