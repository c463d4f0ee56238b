use Rattle.std.proofs.Common.{◌≡◌, ◌+◌, ◌++◌, List, length, take}
use Rattle.std.specs.Prelude.{flat_map}
use Rattle.mailbox_model.specs.Present.{Placed}
use Rattle.mailbox_model.specs.Rows.{brought_by, updates_by}
use Rattle.chat_view.specs.Makers.{placed}
use Rattle.chat_view.proofs.Numbered.{brought_of, numbered}
use Rattle.chat_view.proofs.maker.add_updates.Given as goal

abbrev pub invariant-loop-update : goal.invariant-loop-update
invariant-loop-update l =
    (l.part ≡ l.update-index)
    × (length l.updates ≡ length l.fn.updates + l.update-index)
    × ((before : List Placed) → l.fn.updates ≡ updates_by before
    → l.updates ≡ numbered (flat_map brought_by before ++ brought_of (placed l.spot l.e) (take l.update-index l.update-items)))
