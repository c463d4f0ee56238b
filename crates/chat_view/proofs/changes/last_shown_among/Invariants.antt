use Rattle.std.proofs.Common.{◌≡◌, ◌≤◌, length, take}
use Rattle.chat_view.specs.Changes.{last_shown}
use Rattle.chat_view.proofs.changes.last_shown_among.Given as goal

-- no mark from the index on is one
abbrev pub invariant-loop-index : goal.invariant-loop-index
invariant-loop-index l = (l.index ≤ length l.marks) × (last_shown l.marks ≡ last_shown (take l.index l.marks))

abbrev pub decreases-loop-index : goal.decreases-loop-index
decreases-loop-index l = l.index
