use Rattle.std.proofs.Common.{◌≡◌, ◌≤◌, ◌+◌, ◌||◌, length}
use Rattle.std.specs.Prelude.{sum_by}
use Rattle.std.specs.List.{list_any}
use Rattle.card_type.specs.declared.key.ChatKey.{ChatKey}
use Rattle.mailbox_model.specs.Chats.{chat, is_chat}
use Rattle.chat_states.specs.States.{has_key}
use Rattle.touched_chats.specs.Costs.{settle_reads}
use Rattle.repair.specs.Cards.{IsBetween, nothing_noted}
use Rattle.repair.proofs.whole.settle_all.Given as goal

-- the cards that are left are as before, and those that are settled touched their chats
abbrev pub invariant-loop-id : goal.invariant-loop-id
invariant-loop-id g l =
    let m = l.mailbox.mailbox in
    let n = l.view in
    record {
      between : IsBetween m n l.fn.ids.keys nothing_noted l.fn.indexes l.fn.indexes → IsBetween m n l.ids.keys l.noted l.fn.indexes l.indexes;
      touched : (key : ChatKey) → (has_key l.noted.touched key || list_any (λ id. is_chat key (chat m id) || is_chat key (chat n id)) l.ids.keys)
          ≡ list_any (λ id. is_chat key (chat m id) || is_chat key (chat n id)) l.fn.ids.keys;
      rest : l.indexes ≡ record l.fn.indexes { chats = l.indexes.chats; timers = l.indexes.timers };
      read : l.steps + sum_by (settle_reads m n) l.ids.keys ≤ l.fn.steps + sum_by (settle_reads m n) l.fn.ids.keys;
    }

abbrev pub decreases-loop-id : goal.decreases-loop-id
decreases-loop-id g l = length l.ids.keys
