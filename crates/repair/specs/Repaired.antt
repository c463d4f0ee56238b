-- What a repair answers.
use Rattle.std.specs.Prelude.{◌≡◌, List}
use Rattle.std.specs.List.{list_any}
use Rattle.std.specs.List.Sorted.{IsStrictlySortedBy}
use Rattle.card_type.specs.declared.key.ChatKey.{ChatKey}
use Rattle.card_type.specs.Keys.{key_cmp, key_eq}
use Rattle.mailbox_model.specs.declared.change.Change.{Change}
use Rattle.mailbox_model.specs.Mailbox.{Mailbox, after}
use Rattle.mailbox_model.specs.Turns.{turn}
use Rattle.touched_chats.specs.Costs.{touched_keys}

-- the keys of the chats that a change touches, in order
pub record AreTouched (m : Mailbox) (change : Change) (keys : List ChatKey) : Type 0 where
  pub order : IsStrictlySortedBy key_cmp keys
  pub all : (key : ChatKey) → list_any (key_eq key) keys ≡ list_any (key_eq key) (touched_keys m (after m change) (turn m change))
