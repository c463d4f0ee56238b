use Rattle.std.proofs.Common.{◌≡◌, ◌++◌, length}
use Rattle.std.specs.Prelude.{if◌then◌else◌}
use Rattle.std.specs.FinMap as map_of
use Rattle.std.specs.Option.{option_map}
use Rattle.card_type.specs.declared.key.ChatKey.{ChatKey}
use Rattle.chat_states.specs.States.{has_key}
use Rattle.chat_view.specs.Standing.{last_date}
use Rattle.indexes.specs.Kept.{date_at}
use Rattle.repair.proofs.order.renew_places.Given as goal

-- the chats so far are at their places, and the others where they were
abbrev pub invariant-loop-key : goal.invariant-loop-key
invariant-loop-key l =
    record {
      all : l.fn.touched ≡ l.keys.items ++ l.touched;
      dates : (key : ChatKey) → date_at l.order key ≡ (if has_key l.keys.items key then option_map last_date (map_of.get l.chats key) else date_at l.fn.order key);
    }

abbrev pub decreases-loop-key : goal.decreases-loop-key
decreases-loop-key l = length l.touched
