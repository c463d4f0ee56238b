-- Which chats a change touches: those that show something of a mail that changed, and those whose cards or page differ.
use Rattle.std.specs.Prelude.{◌≡◌, true, ◌≢◌, ◌⊎◌, Bool, not, ◌||◌, ◌&&◌, nat_eq, List, ◌++◌, filter}
use Rattle.std.specs.List.{list_any}
use Rattle.std.specs.Option.{option_eq}
use Rattle.card_type.specs.declared.key.ChatKey.{ChatKey}
use Rattle.card_type.specs.Effects.{is_among, names}
use Rattle.card_type.specs.Keys.{key_eq}
use Rattle.card_type.specs.Spots.{spot_eq}
use Rattle.mailbox_model.specs.Mailbox.{Mailbox}
use Rattle.mailbox_model.specs.Present.{Mail, spot, present}
use Rattle.mailbox_model.specs.Chats.{chat_mails}
use Rattle.mailbox_model.specs.Pages.{keys, page}

-- two mails are at one spot, of one uid, and were seen at one moment
abbrev pub is_same : Mail → Mail → Bool
is_same a b = spot_eq (spot a.placed) (spot b.placed) && option_eq nat_eq a.seen b.seen

abbrev pub only_in : List Mail → List Mail → List Mail
only_in ts others = filter (λ t. not (list_any (is_same t) others)) ts

-- the mails that came, left or were marked as seen
abbrev pub changed : Mailbox → Mailbox → List Mail
changed m n = only_in (present n) (present m) ++ only_in (present m) (present n)

-- whether e is t or names it
abbrev pub is_or_names : Mail → Mail → Bool
is_or_names t e = is_same e t || is_among (names e.placed.card) t.placed.card.id

-- whether t changed, or a mail that changed names it
abbrev pub is_concerned : Mailbox → Mailbox → Mail → Bool
is_concerned m n t = list_any (is_or_names t) (changed m n)

abbrev pub has_chat : Mailbox → ChatKey → Bool
has_chat m key = list_any (key_eq key) (keys m)

-- a chat of either mailbox that has such a card, or whose cards or page differ
pub record IsTouched (m n : Mailbox) (key : ChatKey) : Type 0 where
  pub there : (has_chat m key || has_chat n key) ≡ true
  pub why : (list_any (is_concerned m n) (chat_mails m key ++ chat_mails n key) ≡ true) ⊎ ((chat_mails m key ≢ chat_mails n key) ⊎ (page m key ≢ page n key))

-- each touched chat is among these
abbrev pub HoldsTouched : Mailbox → Mailbox → List ChatKey → Type 0
HoldsTouched m n held = (key : ChatKey) → IsTouched m n key → list_any (key_eq key) held ≡ true
