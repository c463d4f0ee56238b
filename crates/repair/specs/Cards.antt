-- The cards of a mailbox by chat and id, and the indexes while some of the cards are still as in the mailbox before.
use Rattle.std.specs.Prelude.{◌≡◌, ℕ, false, true, Bool, ◌==◌, if◌then◌else◌, Option, None, List, [], find, filter_map, option_map}
use Rattle.std.specs.FinMap as map_of
use Rattle.std.specs.Option.{option_map_or}
use Rattle.card_type.specs.Effects.{is_among}
use Rattle.card_type.specs.declared.key.ChatKey.{ChatKey}
use Rattle.card_type.specs.declared.spot.Spot.{Spot}
use Rattle.mailbox_model.specs.Chats.{chat, is_chat}
use Rattle.mailbox_model.specs.Lists.{Bytes}
use Rattle.mailbox_model.specs.Mailbox.{Mailbox, card_at}
use Rattle.mailbox_model.specs.Present.{Mail, has_id, contents, present}
use Rattle.mailbox_model.specs.States.{shown_as}
use Rattle.group_roster.specs.Setters.{At, at}
use Rattle.chat_states.specs.Families.{Family}
use Rattle.chat_states.specs.States.{AreStatesOf, has_key}
use Rattle.indexes.specs.Kept.{deadline_among, deadline_at}
use Rattle.indexes.specs.declared.indexes.Indexes.{Indexes}
use Rattle.repair.specs.declared.touched.Touched.{Touched}

-- the content card with an id
abbrev pub content_at : Mailbox → Bytes → Option Mail
content_at m id = find (has_id id) (contents m)

-- that in a chat, with the mark of its row
abbrev pub card_in : Mailbox → Family
card_in m key id = if is_chat key (chat m id) then option_map (shown_as m) (content_at m id) else None

-- the cards at these spots
abbrev pub cards_at : Mailbox → List Spot → List At
cards_at m spots = filter_map (λ s. option_map (at s) (card_at m s.uid)) spots

-- whether it has a uid
abbrev pub has_uid_at : Mailbox → Bytes → ℕ → Bool
has_uid_at m id uid = option_map_or (λ t. t.placed.uid == uid) (content_at m id) false

-- ---- while some cards are still to be settled

-- those are as in the first mailbox, and all others as in the second
abbrev pub family_between : Mailbox → Mailbox → List Bytes → Family
family_between m n pending key id = if is_among pending id then card_in m key id else card_in n key id

-- no card that is pending has the uid
abbrev pub IsFree : Mailbox → Mailbox → List Bytes → ℕ → Type 0
IsFree m n pending uid = (id : Bytes) → is_among pending id ≡ true → (has_uid_at m id uid ≡ false) × (has_uid_at n id uid ≡ false)

abbrev pub nothing_noted : Touched
nothing_noted = record { touched = []; unsettled = [] }

-- the states, the deadlines, and which chats were touched, while the cards with these ids are pending
pub record IsBetween (m n : Mailbox) (pending : List Bytes) (noted : Touched) (start x : Indexes) : Type 0 where
  pub states : AreStatesOf n.me (has_key noted.unsettled) (family_between m n pending) x.chats
  pub deadlines : (uid : ℕ) → IsFree m n pending uid → deadline_at x.timers uid ≡ deadline_among n (present n) uid
  pub others : (key : ChatKey) → has_key noted.touched key ≡ false → map_of.get x.chats key ≡ map_of.get start.chats key
  pub marked : (key : ChatKey) → has_key noted.unsettled key ≡ true → has_key noted.touched key ≡ true
  pub rest : x ≡ record start { chats = x.chats; timers = x.timers }

-- a chat may have become unsettled where it is concerned, and stays so; any other is as before
pub record MayNote (concerned before after : Bool) : Type 0 where
  pub stays : before ≡ true → after ≡ true
  pub other : concerned ≡ false → after ≡ before
