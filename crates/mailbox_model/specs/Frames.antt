-- What the page of a chat follows from, and so what a program that keeps pages has to look at.
use Rattle.std.specs.Prelude.{◌≡◌, false}
use Rattle.std.specs.List.{AllByRecursion}
use Rattle.card_type.specs.declared.key.ChatKey.{ChatKey}
use Rattle.card_type.specs.declared.key.ChatKey.TheVariants.{Single}
use Rattle.mailbox_model.specs.Lists.{Bytes}
use Rattle.mailbox_model.specs.Mailbox.{Mailbox}
use Rattle.mailbox_model.specs.Present.{Mail}
use Rattle.mailbox_model.specs.Chats.{chat_mails}
use Rattle.mailbox_model.specs.Rows.{acting, is_expired, is_withdrawn, row}
use Rattle.mailbox_model.specs.Contacts.{contact_name}

-- two mailboxes have alike who acts on a card, and whether it is expired, where that is asked
pub record IsCardAlike (m n : Mailbox) (t : Mail) : Type 0 where
  pub acts : acting m t.placed.card ≡ acting n t.placed.card
  pub expired : is_withdrawn (acting m t.placed.card) ≡ false → is_expired m.me m.now t ≡ is_expired n.me n.now t

-- they have the name of the only other of a chat alike
abbrev pub NameStays : Mailbox → Mailbox → ChatKey → Type 0
NameStays m n key = (addr : Bytes) → key ≡ Single addr → contact_name m addr ≡ contact_name n addr

-- they have a chat alike: its cards, what is around each, and the name of the only other
pub record IsChatAlike (m n : Mailbox) (key : ChatKey) : Type 0 where
  pub me : m.me ≡ n.me
  pub mails : chat_mails m key ≡ chat_mails n key
  pub each : AllByRecursion (IsCardAlike m n) (chat_mails m key)
  pub name : NameStays m n key

-- they have the cards of a chat alike, and the row of each
pub record Stays (m n : Mailbox) (key : ChatKey) : Type 0 where
  pub me : m.me ≡ n.me
  pub mails : chat_mails m key ≡ chat_mails n key
  pub rows : AllByRecursion (λ t. row m t ≡ row n t) (chat_mails m key)
