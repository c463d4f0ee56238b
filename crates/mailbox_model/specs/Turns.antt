-- How a change moves the present cards and the moment.
use Rattle.std.specs.Prelude.{◌≡◌, ◌≢◌, ℕ, ◌<◌, Bool, not, ◌&&◌, ◌==◌, nat_lt, if◌then◌else◌, Option, Some, None, is_some, Ok, List, map, find, Contains}
use Rattle.std.specs.Ordering.{is_lt}
use Rattle.card_type.specs.declared.card.Card.{Card}
use Rattle.mailbox_model.specs.declared.change.Change.{Change}
use Rattle.mailbox_model.specs.declared.change.Change.TheVariants.{Arrive, ArriveFault, Expunge, Seen, At}
use Rattle.mailbox_model.specs.declared.turn.Turn.{Turn}
use Rattle.mailbox_model.specs.declared.turn.Turn.TheVariants.{Nothing, Add, Remove, Replace, Marked, Moved}
use Rattle.lists.specs.Sorted.{insert_by}
use Rattle.mailbox_model.specs.Mailbox.{Mailbox, after, new_entry, marked_at}
use Rattle.mailbox_model.specs.Present.{Mail, placed_by, spot, mail_cmp, same_id, present}

-- ---- the turn of a change

-- an arrival comes in, or replaces a later one with its id, or gives way to an earlier one
abbrev pub turn_in : Mail → Option Mail → Turn
turn_in t None = Add (spot t.placed)
turn_in t (Some u) = if is_lt (mail_cmp t u) then Replace (spot u.placed) (spot t.placed) else Nothing

-- what leaves gives way to the next one with its id, if there is one
abbrev pub turn_out : Mail → Option Mail → Turn
turn_out t None = Remove (spot t.placed)
turn_out t (Some u) = Replace (spot t.placed) (spot u.placed)

-- what was present, if anything was, leaves a mailbox in which these are left
abbrev pub turn_without : Option Mail → List Mail → Turn
turn_without None left = Nothing
turn_without (Some t) left = turn_out t (find (same_id t) left)

abbrev pub is_mail : ℕ → Mail → Bool
is_mail uid t = t.placed.uid == uid

abbrev pub is_unseen : ℕ → Mail → Bool
is_unseen uid t = is_mail uid t && not (is_some t.seen)

-- a card that arrives now, in its place
abbrev pub arriving : Mailbox → Card → Mail
arriving m card = record { placed = placed_by (new_entry m (Ok card)) card; seen = None }

abbrev pub turn : Mailbox → Change → Turn
turn m (Arrive card) = turn_in (arriving m card) (find (same_id (arriving m card)) (present m))
turn m (ArriveFault fault) = Nothing
turn m (Expunge uid) = turn_without (find (is_mail uid) (present m)) (present (after m (Expunge uid)))
turn m (Seen uid) = if is_some (find (is_unseen uid) (present m)) then Marked uid else Nothing
turn m (At moment) = if nat_lt m.now moment then Moved moment else Nothing

-- ---- what a turn says

-- a mail inserted in mail order
abbrev pub with_mail : Mail → List Mail → List Mail
with_mail t ts = insert_by mail_cmp t ts

-- the first mark counts
abbrev pub mark_mail : ℕ → ℕ → Mail → Mail
mark_mail uid now t = if is_mail uid t then record t { seen = marked_at now t.seen } else t

-- of two mails with one id, one is there before and the other one after, beside the same others
pub record IsReplaced (t u : Mail) (before after : List Mail) : Type 0 where
  pub apart : t.placed.uid ≢ u.placed.uid
  pub id : t.placed.card.id ≡ u.placed.card.id
  pub others : List Mail
  pub first : before ≡ with_mail t others
  pub second : after ≡ with_mail u others

-- the present cards before and after
abbrev pub Turns : List Mail → List Mail → ℕ → Turn → Type 0
Turns before after now Nothing = after ≡ before
Turns before after now (Add at) = (t : Mail) × (spot t.placed ≡ at) × (after ≡ with_mail t before)
Turns before after now (Remove at) = (t : Mail) × (spot t.placed ≡ at) × (before ≡ with_mail t after)
Turns before after now (Replace from to) = (t u : Mail) × (spot t.placed ≡ from) × (spot u.placed ≡ to) × IsReplaced t u before after
Turns before after now (Marked uid) = (t : Mail) × Contains before t × (t.placed.uid ≡ uid) × (t.seen ≡ None) × (after ≡ map (mark_mail uid now) before)
Turns before after now (Moved moment) = after ≡ before

-- the moment, which only a turn of the clock moves, and then forward
abbrev pub MovesClock : ℕ → ℕ → Turn → Type 0
MovesClock before after (Moved moment) = (before < moment) × (after ≡ moment)
MovesClock before after turn = after ≡ before

-- a turn says how the first mailbox becomes the second
pub record IsTurn (old new : Mailbox) (turn : Turn) : Type 0 where
  pub present : Turns (present old) (present new) old.now turn
  pub clock : MovesClock old.now new.now turn
