use Rattle.std.proofs.Common.{◌≡◌, ◌≤◌, ◌+◌, map, take}
use Rattle.std.specs.Prelude.{sum_by}
use Rattle.mailbox_model.specs.ChatList.{list_row}
use Rattle.indexes.specs.Costs.{chat_cost}
use Rattle.indexes.proofs.indexes.Indexes.list_rows.Given as goal

-- the rows of the chats so far are there
abbrev pub invariant-loop-key : goal.invariant-loop-key
invariant-loop-key g l =
    let m = l.mailbox.mailbox in
    record {
      made : l.rows ≡ map (list_row m) (take l.key-index l.key-items);
      read : l.steps ≤ l.fn.steps + sum_by (chat_cost m) (take l.key-index l.key-items);
    }
