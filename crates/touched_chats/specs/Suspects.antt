-- Which chats and cards a change may touch, told by what a program sees of it: by the cards that are in another chat than
-- before, the mails of the turn, and the rows that expire.
use Rattle.std.specs.Prelude.{◌≡◌, ℕ, Bool, false, not, ◌||◌, ◌&&◌, nat_eq, ◌==◌, is_some, IfSome, List, [], ◌∷◌, ◌++◌, filter, find}
use Rattle.std.specs.List.{list_any}
use Rattle.std.specs.Option.{option_eq, option_map_or}
use Rattle.std.specs.Str.{bytes_eq}
use Rattle.card_type.specs.declared.key.ChatKey.{ChatKey}
use Rattle.card_type.specs.declared.key.ChatKey.TheVariants.{Single}
use Rattle.card_type.specs.Effects.{is_among, names}
use Rattle.card_type.specs.Keys.{key_eq}
use Rattle.mailbox_model.specs.declared.links.Cites.{Cites}
use Rattle.mailbox_model.specs.declared.links.Moved.{Moved}
use Rattle.mailbox_model.specs.declared.turn.Turn.{Turn}
use Rattle.mailbox_model.specs.declared.turn.Turn.TheVariants.{Nothing, Add, Remove, Replace, Marked, Moved as ClockMoved}
use Rattle.mailbox_model.specs.Lists.{Bytes}
use Rattle.mailbox_model.specs.Mailbox.{Mailbox}
use Rattle.mailbox_model.specs.Present.{Mail, has_id, present, contents}
use Rattle.mailbox_model.specs.Chats.{cites, chat, is_chat, moves, chat_mails}
use Rattle.mailbox_model.specs.Contacts.{contact_name}
use Rattle.mailbox_model.specs.Rows.{is_expired, row}

-- ---- by the cards that are in another chat than before

-- a card came into the chat or left it
abbrev pub is_end : ChatKey → Moved → Bool
is_end key mv = is_chat key mv.before || is_chat key mv.after

abbrev pub is_moved : List Cites → List Cites → ChatKey → Bool
is_moved before after key = list_any (is_end key) (moves (before ++ after) before after)

-- ---- by the mails that came, left or were marked

-- their uids
abbrev pub turned_uids : Turn → List ℕ
turned_uids Nothing = []
turned_uids (Add at) = at.uid ∷ []
turned_uids (Remove at) = at.uid ∷ []
turned_uids (Replace from to) = from.uid ∷ to.uid ∷ []
turned_uids (Marked uid) = uid ∷ []
turned_uids (ClockMoved moment) = []

abbrev pub turned : Mailbox → Mailbox → Turn → List Mail
turned m n turn = filter (λ t. list_any (nat_eq t.placed.uid) (turned_uids turn)) (present m ++ present n)

-- a mail is in a chat, or names a card of it
abbrev pub is_near : Mailbox → ChatKey → Mail → Bool
is_near m key t = list_any (λ id. is_chat key (chat m id)) (t.placed.card.id ∷ names t.placed.card)

abbrev pub is_turned : Mailbox → Mailbox → Turn → ChatKey → Bool
is_turned m n turn key = list_any (is_near n key) (turned m n turn)

-- the chat with one other, where a mail of his gives or takes his name
abbrev pub is_renamed : Mailbox → Mailbox → Turn → ChatKey → Bool
is_renamed m n turn key = list_any (λ t. let from = t.placed.card.from in not (bytes_eq (contact_name m from) (contact_name n from)) && key_eq key (Single from)) (turned m n turn)

-- ---- by the clock

-- a row is shown and will have expired
abbrev pub is_due : Mailbox → ℕ → Mail → Bool
is_due m later t = is_some (row m t) && is_expired m.me later t

abbrev pub has_due : Mailbox → ℕ → ChatKey → Bool
has_due m later key = list_any (is_due m later) (chat_mails m key)

-- ---- by any of these

abbrev pub is_suspect : Mailbox → Mailbox → Turn → ChatKey → Bool
is_suspect m n turn key = is_moved (cites m) (cites n) key || (is_turned m n turn key || (is_renamed m n turn key || has_due m n.now key))

-- ---- card by card

-- the card with an id is in another chat than before
abbrev pub has_moved : Mailbox → Mailbox → Bytes → Bool
has_moved m n id = not (option_eq key_eq (chat m id) (chat n id))

-- a mail has an id, or names it
abbrev pub is_about : Bytes → Mail → Bool
is_about id t = is_among (t.placed.card.id ∷ names t.placed.card) id

-- a mail that came, left or was marked is about it
abbrev pub is_told : Mailbox → Mailbox → Turn → Bytes → Bool
is_told m n turn id = list_any (is_about id) (turned m n turn)

-- its row is shown and will have expired
abbrev pub falls_due : Mailbox → ℕ → Bytes → Bool
falls_due m later id = option_map_or (is_due m later) (find (has_id id) (contents m)) false

-- likewise that of the card with a uid
abbrev pub uid_falls_due : Mailbox → ℕ → ℕ → Bool
uid_falls_due m later uid = option_map_or (is_due m later) (find (λ t. t.placed.uid == uid) (contents m)) false

abbrev pub is_suspect_card : Mailbox → Mailbox → Turn → Bytes → Bool
is_suspect_card m n turn id = has_moved m n id || (is_told m n turn id || falls_due m n.now id)

-- two mailboxes have the card with an id alike: its mail, its chat and its row
pub record CardStays (m n : Mailbox) (id : Bytes) : Type 0 where
  pub mail : find (has_id id) (contents m) ≡ find (has_id id) (contents n)
  pub chat : chat m id ≡ chat n id
  pub row : IfSome (find (has_id id) (contents m)) (λ t. row m t ≡ row n t)
