use Rattle.std.proofs.Common.{take}
use Rattle.indexes.proofs.Spots.{AreSpots}
use Rattle.indexes.proofs.present.present_spots.Given as goal

-- the items so far
abbrev pub invariant-loop-item : goal.invariant-loop-item
invariant-loop-item l = AreSpots l.mailbox.mailbox (take l.item-index l.mailbox.mailbox.entries) l.spots
