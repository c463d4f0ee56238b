-- Groups: how the bytes of place T are read from a count.
use Rattle.std.specs.Prelude.{ℕ, ◌+◌, ◌-◌, ◌^◌, Bool, true, false, ◌&&◌, List, [], ◌∷◌, length, Result, Ok, Err, if◌then◌else◌, ◌==◌, nat_lt, nat_le}
use Rattle.std.specs.Int.{w16, w64}
use Rattle.mailbox_model.specs.declared.change.Change.{Change}
use Rattle.card_record.specs.Reading.{◌>>=◌, Read, number_at, times_of}
use Rattle.state_image.specs.declared.position.Position.{Position}
use Rattle.state_image.specs.Changes.{change_at}
use Rattle.state_image.specs.Images.{lines_at, traces_at}
use Rattle.tail_journal.specs.declared.body.Few.{Few}
use Rattle.tail_journal.specs.declared.body.Head.{Head}
use Rattle.tail_journal.specs.Frames.{Frame, frame_size, frames}

-- what a group that is applied holds: the position after it, and its changes, each with a place
pub record Applied : Type 0 where
  pub position : Position
  pub changes : List (ℕ × Change)

-- ---- the body of a group; a fault in it is told by how many bytes are left there

-- from 1 to 256 changes: by themselves, or with 32,768 more where there are traces
abbrev pub few_by : Bool → Bool → ℕ → ℕ → List ℕ → Read Few
few_by true traced left n rest = Ok (record { traced = false; changes = n }, rest)
few_by false true left n rest = Ok (record { traced = true; changes = n - 32768 }, rest)
few_by false false left n rest = Err left

abbrev pub few_of : ℕ → ℕ → List ℕ → Read Few
few_of left n rest = few_by (nat_le 1 n && nat_le n 256) (nat_le 32769 n && nat_le n 33024) left n rest

abbrev pub few_at : List ℕ → Read Few
few_at bytes = number_at w16 bytes >>= λ n. few_of (length bytes) n.0 n.1

-- the offsets after the changes, after their number, and the traces there
unfoldable pub offsets_at : Few → List ℕ → Read Head
offsets_at few bytes = do
  mbox ← number_at w64 bytes
  steps ← number_at w64 mbox.1
  lines ← lines_at steps.0 steps.1
  traces ← traces_at few.traced lines.1
  Ok (record { changes = few.changes; mbox = mbox.0; steps = steps.0; lines = lines.0; mbox_trace = traces.0.0; steps_trace = traces.0.1 }, traces.1)

unfoldable pub head_at : List ℕ → Read Head
head_at bytes = few_at bytes >>= λ few. offsets_at few.0 few.1

-- a change with its place, in a body that ends at this offset
abbrev pub next_change : ℕ → List ℕ → Read (ℕ × Change)
next_change end bytes = change_at bytes >>= λ x. Ok ((end - length bytes, x.0), x.1)

abbrev pub changes_at : ℕ → ℕ → List ℕ → Read (List (ℕ × Change))
changes_at end n bytes = times_of (λ _ rest. next_change end rest) [] n bytes

-- a value after which nothing follows
abbrev pub alone : {X : Type 0} → Read X → Result X ℕ
alone read = read >>= λ x. if length x.1 == 0 then Ok x.0 else Err (length x.1)

-- a body that ends at this offset, after which nothing follows
unfoldable pub body_at : ℕ → List ℕ → Result (Head × List (ℕ × Change)) ℕ
body_at end bytes = do
  head ← head_at bytes
  changes ← alone (changes_at end head.0.changes head.1)
  Ok (head.0, changes)

-- ---- the groups from a count on; a place is an offset in T

abbrev pub position_after : ℕ → Head → Position
position_after base head = record {
  count = base + head.changes;
  mbox = head.mbox;
  steps = head.steps;
  lines = head.lines;
  mbox_trace = head.mbox_trace;
  steps_trace = head.steps_trace;
}

-- what a body of so many bytes says after a base, where it starts at an offset
abbrev pub placed : ℕ → ℕ → ℕ → Result (Head × List (ℕ × Change)) ℕ → Result Applied ℕ
placed base start size (Ok body) = Ok (record { position = position_after base body.0; changes = body.1 })
placed base start size (Err left) = Err (start + (size - left))

-- a group with which the count stays within its limit; else the group is damaged at its base
abbrev pub within_limit : ℕ → Applied → Result Applied ℕ
within_limit at group = if nat_le group.position.count (2 ^ 62) then Ok group else Err (at + 1)

-- the group of a frame at an offset, or the offset at which it is damaged
abbrev pub applied : ℕ → Frame → Result Applied ℕ
applied at frame = placed frame.base (at + 13) (length frame.body) (body_at (at + frame_size frame) frame.body) >>= within_limit at

-- the groups that are applied, the count after them, and where reading ends
pub record Reading : Type 0 where
  pub groups : List Applied
  pub count : ℕ
  pub end : ℕ

abbrev pub nothing_more : ℕ → ℕ → Reading
nothing_more at count = record { groups = []; count = count; end = at }

abbrev pub with_first : Applied → Reading → Reading
with_first group more = record { groups = group ∷ more.groups; count = more.count; end = more.end }

-- The frames from an offset on, taken in order from a count. One with that count as its base is applied, one with a
-- smaller base is skipped unread, and at one with a greater base reading ends.
abbrev pub reading_on : ℕ → ℕ → List Frame → Result Reading ℕ
reading_on at count [] = Ok (nothing_more at count)
reading_on at count (frame ∷ more) =
    if nat_lt frame.base count then reading_on (at + frame_size frame) count more
    else if frame.base == count then (applied at frame >>= λ group. reading_on (at + frame_size frame) group.position.count more >>= λ rest. Ok (with_first group rest))
    else Ok (nothing_more at count)

-- T, read from a count: what is applied, or the offset of the first damage
abbrev pub reading : ℕ → List ℕ → Result Reading ℕ
reading count bytes = reading_on 0 count (frames bytes)
