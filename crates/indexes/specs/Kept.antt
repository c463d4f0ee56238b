-- What is kept of a mailbox beside its cards: for each index what it equals.
use Rattle.std.specs.Prelude.{◌≡◌, ℕ, ◌-◌, ◌^◌, ◌<◌, ◌==◌, true, if◌then◌else◌, Option, Some, None, is_some, option_map, List, map, filter, find, sum_by}
use Rattle.std.specs.FinMap as map_of
use Rattle.std.specs.List.{list_any}
use Rattle.std.specs.List.Sorted.{IsStrictlySortedBy}
use Rattle.std.specs.Option.{option_and_then}
use Rattle.card_type.specs.declared.key.ChatKey.{ChatKey}
use Rattle.card_type.specs.declared.spot.Spot.{Spot}
use Rattle.card_type.specs.Keys.{key_cmp, key_eq}
use Rattle.card_type.specs.Kinds.{has_some, is_content, kind_of}
use Rattle.mailbox_model.specs.Lists.{Bytes}
use Rattle.mailbox_model.specs.Mailbox.{Mailbox}
use Rattle.mailbox_model.specs.Present.{Placed, Mail, spot, mail_at, present, present_cards}
use Rattle.mailbox_model.specs.Chats.{chat, is_chat}
use Rattle.mailbox_model.specs.ChatList.{Dated}
use Rattle.mailbox_model.specs.Pages.{keys}
use Rattle.mailbox_model.specs.Rows.{expiry, row}
use Rattle.mailbox_model.specs.States.{shown_as}
use Rattle.chat_view.specs.declared.state.ChatState.{ChatState}
use Rattle.chat_view.specs.Standing.{last_date, state_of}
use Rattle.thread_links.specs.Linked.{cites_among}
use Rattle.effects.specs.Named.{StandsFor as AreEffects}
use Rattle.contacts.specs.Kept.{times_in, StandsFor as AreContacts}
use Rattle.indexes.specs.declared.indexes.Indexes.{Indexes}

-- where the mail with a uid is in mail order
abbrev pub spot_at : Mailbox → ℕ → Option Spot
spot_at m uid = option_map (λ t. spot t.placed) (mail_at m uid)

-- the present card with a uid
abbrev pub present_at : Mailbox → ℕ → Option Placed
present_at m uid = find (λ p. p.uid == uid) (present_cards m)

-- ---- who is tied to whom

abbrev pub contents_of : List Mail → List Mail
contents_of ts = filter (λ t. is_content (kind_of t.placed.card)) ts

-- the links, the effects and the contacts are those of these mails, where me is the own address
pub record AreOf (me : Bytes) (ts : List Mail) (x : Indexes) : Type 0 where
  pub whole : x.links.whole ≡ true
  pub links : x.links.cites ≡ cites_among me ts
  pub effects : AreEffects x.effects (map (λ t. t.placed) ts)
  pub contacts : AreContacts x.contacts (map (λ t. t.placed) ts)

-- no address is mentioned so often that it is not counted
abbrev pub AreCounted : List Mail → Type 0
AreCounted ts = (addr : Bytes) → sum_by (λ p. times_in p.card addr) (map (λ t. t.placed) ts) < 2 ^ 64 - 1

-- ---- the state of each chat, and when its cards expire

-- those of these mails that are in a chat of the mailbox
abbrev pub mails_in : Mailbox → ChatKey → List Mail → List Mail
mails_in m key ts = filter (λ t. is_chat key (chat m t.placed.card.id)) (contents_of ts)

-- the state of a chat with those, where there are any
abbrev pub state_among : Mailbox → List Mail → ChatKey → Option ChatState
state_among m ts key =
    let cards = map (shown_as m) (mails_in m key ts) in
    if has_some cards then Some (state_of m.me key cards) else None

abbrev pub AreStates : Mailbox → List Mail → map_of.FinMap key_cmp ChatState → Type 0
AreStates m ts states = (key : ChatKey) → map_of.get states key ≡ state_among m ts key

-- the deadline of a mail: the moment at which its row expires, where it is shown
abbrev pub deadline_of : Mailbox → Mail → Option ℕ
deadline_of m t = if is_some (row m t) then expiry m.me t else None

-- the deadline of the one of these with a uid
abbrev pub deadline_among : Mailbox → List Mail → ℕ → Option ℕ
deadline_among m ts uid = option_and_then (deadline_of m) (find (λ t. t.placed.uid == uid) (contents_of ts))

-- the deadline that is kept of a uid
abbrev pub deadline_at : List (ℕ × ℕ) → ℕ → Option ℕ
deadline_at deadlines uid = option_map (λ d. d.0) (find (λ d. d.1 == uid) deadlines)

abbrev pub AreDeadlines : Mailbox → List Mail → List (ℕ × ℕ) → Type 0
AreDeadlines m ts deadlines = (uid : ℕ) → deadline_at deadlines uid ≡ deadline_among m ts uid

-- ---- the order of chats

-- the date that is kept of a chat
abbrev pub date_at : List Dated → ChatKey → Option (Option ℕ)
date_at order key = option_map (λ d. d.1) (find (λ d. key_eq key d.0) order)

-- each chat has its place by the date of its last shown row
abbrev pub AreDated : map_of.FinMap key_cmp ChatState → List Dated → Type 0
AreDated states order = (key : ChatKey) → date_at order key ≡ option_map last_date (map_of.get states key)

-- ---- all

-- the indexes are those of a mailbox
pub record AreKept (m : Mailbox) (x : Indexes) : Type 0 where
  pub cards : AreOf m.me (present m) x
  pub chats : AreStates m (present m) x.chats
  pub timers : AreDeadlines m (present m) x.timers
  pub order : AreDated x.chats x.order

-- these are the keys of all chats, in order
pub record AreAllChats (m : Mailbox) (found : List ChatKey) : Type 0 where
  pub order : IsStrictlySortedBy key_cmp found
  pub all : (key : ChatKey) → list_any (key_eq key) found ≡ list_any (key_eq key) (keys m)
