use Rattle.std.proofs.Common.{◌≡◌, ◌||◌, ◌&&◌, is_some, take}
use Rattle.std.specs.FinMap as map_of
use Rattle.std.specs.List.{list_any}
use Rattle.card_type.specs.declared.key.ChatKey.{ChatKey}
use Rattle.chat_states.specs.States.{has_key}
use Rattle.repair.specs.Named.{has_other_name}
use Rattle.repair.proofs.names.note_renamed.Given as goal

-- the chats with those so far who are shown under another name are there
abbrev pub invariant-loop-one : goal.invariant-loop-one
invariant-loop-one l =
    (key : ChatKey) → has_key l.keys key
    ≡ (has_key l.fn.keys key
    || (list_any (has_other_name l.contacts key) (take l.one-index l.named) && is_some (map_of.get l.chats key)))
