use Rattle.std.proofs.Common.{◌≡◌, ◌≤◌, ◌+◌, false, length}
use Rattle.std.specs.Prelude.{sum_by}
use Rattle.std.specs.FinMap as map_of
use Rattle.card_type.specs.declared.key.ChatKey.{ChatKey}
use Rattle.mailbox_model.specs.Chats.{chat_mails}
use Rattle.chat_states.specs.States.{AreStatesOf, has_key}
use Rattle.repair.specs.Cards.{card_in}
use Rattle.repair.proofs.refold.refold_all.Given as goal

-- those that are left are unsettled, and of the others each was read once
abbrev pub invariant-loop-key : goal.invariant-loop-key
invariant-loop-key g l =
    record {
      states : AreStatesOf l.view.me (has_key l.unsettled) (card_in l.view) l.chats;
      others : (key : ChatKey) → has_key l.fn.unsettled key ≡ false → map_of.get l.chats key ≡ map_of.get l.fn.chats key;
      left : (key : ChatKey) → has_key l.fn.unsettled key ≡ false → has_key l.unsettled key ≡ false;
      read : l.steps + sum_by (λ key. length (chat_mails l.view key)) l.unsettled ≤ l.fn.steps + sum_by (λ key. length (chat_mails l.view key)) l.fn.unsettled;
    }

abbrev pub decreases-loop-key : goal.decreases-loop-key
decreases-loop-key g l = length l.unsettled
