-- The mailbox after a change, told before the change is made.
use Rattle.std.specs.Prelude.{ℕ, ◌==◌, if◌then◌else◌, Option, Some, None, Ok, Err, option_map}
use Rattle.std.specs.Str.{bytes_eq}
use Rattle.card_type.specs.declared.spot.Spot.{Spot}
use Rattle.mailbox_model.specs.declared.change.Change.{Change}
use Rattle.mailbox_model.specs.declared.change.Change.TheVariants.{Arrive, ArriveFault, Expunge, Seen, At}
use Rattle.mailbox_model.specs.declared.turn.Turn.{Turn}
use Rattle.mailbox_model.specs.declared.turn.Turn.TheVariants.{Nothing, Add, Remove, Replace, Marked, Moved}
use Rattle.mailbox_model.specs.Lists.{Bytes}
use Rattle.mailbox_model.specs.Mailbox.{Mailbox, Entry, entry_at, new_entry, mark_entry}
use Rattle.mailbox_model.specs.Present.{spot_of}

-- by the change: what has a uid
abbrev pub entry_ahead : Mailbox → Change → ℕ → Option Entry
entry_ahead m (Arrive card) uid = if m.next_uid == uid then Some (new_entry m (Ok card)) else entry_at m uid
entry_ahead m (ArriveFault fault) uid = if m.next_uid == uid then Some (new_entry m (Err fault)) else entry_at m uid
entry_ahead m (Expunge gone) uid = if gone == uid then None else entry_at m uid
entry_ahead m (Seen marked) uid = option_map (mark_entry marked m.now) (entry_at m uid)
entry_ahead m (At moment) uid = entry_at m uid

-- by the turn: where the present mail with an id is
abbrev pub spot_ahead : Mailbox → Turn → Bytes → Option Spot
spot_ahead m Nothing id = spot_of m id
spot_ahead m (Add at) id = if bytes_eq id at.id then Some at else spot_of m id
spot_ahead m (Remove at) id = if bytes_eq id at.id then None else spot_of m id
spot_ahead m (Replace from to) id = if bytes_eq id to.id then Some to else spot_of m id
spot_ahead m (Marked uid) id = spot_of m id
spot_ahead m (Moved moment) id = spot_of m id

-- and the moment
abbrev pub now_ahead : ℕ → Turn → ℕ
now_ahead now (Moved moment) = moment
now_ahead now turn = now
