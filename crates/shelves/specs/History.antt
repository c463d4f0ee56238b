-- What the places of a shelf in memory are, as a function of what was done to them.
use Rattle.std.specs.Prelude.{◌≤◌, ◌+◌, ◌++◌, ℕ, List, [], ◌∷◌, length, take, drop, replicate, min}
use Rattle.outside.specs.declared.shelf.Place.{Place}
use Rattle.outside.specs.declared.shelf.Place.TheVariants.{A, B, T}
use Rattle.outside.specs.Places.{Places}
use Rattle.outside.specs.Unsynced.{Unsynced, Write, Cut, Leaves}
use Rattle.shelves.specs.declared.call.Crash.{Crash}
use Rattle.shelves.specs.declared.call.Crash.TheVariants.{Old, New, Ones}
use Rattle.shelves.specs.declared.event.Event.{Event}
use Rattle.shelves.specs.declared.event.What.{What}
use Rattle.shelves.specs.declared.event.What.TheVariants as what

-- these bytes over what is there at this offset
abbrev pub over : ℕ → List ℕ → List ℕ → List ℕ
over at bytes old = take at old ++ bytes ++ drop (at + length bytes) old

-- n bytes 1 over what is there
abbrev pub ones_over : ℕ → ℕ → List ℕ → List ℕ
ones_over at n old = take at old ++ replicate n 1 ++ drop (at + n) old

-- a place: what a read gives, what it held at its last sync, the same with a 1 wherever one was written since, and the
-- calls since then, the latest first
pub record Content : Type 0 where
  pub now : List ℕ
  pub synced : List ℕ
  pub ones : List ℕ
  pub calls : List Unsynced

abbrev pub at_first : List ℕ → Content
at_first bytes = record { now = bytes; synced = bytes; ones = bytes; calls = [] }

-- after a write, which begins at the end at most
abbrev pub written : ℕ → List ℕ → Content → Content
written at bytes f =
    let start = min at (length f.now) in
    record {
      now = over start bytes f.now;
      synced = f.synced;
      ones = ones_over start (length bytes) f.ones;
      calls = Write start (length bytes) ∷ f.calls;
    }

-- after a cut, to no more than the size
abbrev pub cut_to : ℕ → Content → Content
cut_to n f = record { now = take n f.now; synced = f.synced; ones = f.ones; calls = Cut (min n (length f.now)) ∷ f.calls }

abbrev pub synced_now : Content → Content
synced_now f = at_first f.now

abbrev pub changed : What → Content → Content
changed (what.Wrote at bytes) f = written at bytes.items f
changed (what.Cut n) f = cut_to n f
changed what.Synced f = synced_now f

pub record Disk : Type 0 where
  pub a : Content
  pub b : Content
  pub t : Content

abbrev pub content_at : Place → Disk → Content
content_at A d = d.a
content_at B d = d.b
content_at T d = d.t

abbrev pub on : Place → (Content → Content) → Disk → Disk
on A f d = record { a = f d.a; b = d.b; t = d.t }
on B f d = record { a = d.a; b = f d.b; t = d.t }
on T f d = record { a = d.a; b = d.b; t = f d.t }

abbrev pub disk_at_first : Places → Disk
disk_at_first first = record { a = at_first first.a; b = at_first first.b; t = at_first first.t }

-- after these events
abbrev pub after : Disk → List Event → Disk
after d [] = d
after d (e ∷ es) = after (on e.place (changed e.what) d) es

abbrev pub reads : Disk → Places
reads d = record { a = d.a.now; b = d.b.now; t = d.t.now }

-- what a crash may leave
abbrev pub MayLeave : Disk → Places → Type 0
MayLeave d c = Leaves d.a.synced d.a.calls c.a × Leaves d.b.synced d.b.calls c.b × Leaves d.t.synced d.t.calls c.t

-- what a crash after some number of these events, t at least, may have left
abbrev pub LeftSince : Disk → List Event → ℕ → Places → Type 0
LeftSince first es t c = (k : ℕ) × (t ≤ k) × (k ≤ length es) × MayLeave (after first (take k es)) c

-- how many bytes they wrote
abbrev pub bytes_of : What → ℕ
bytes_of (what.Wrote at bytes) = length bytes.items
bytes_of (what.Cut n) = 0
bytes_of what.Synced = 0

abbrev pub bytes_written : List Event → ℕ
bytes_written [] = 0
bytes_written (e ∷ es) = bytes_of e.what + bytes_written es

-- what this crash leaves
abbrev pub pick_of : Crash → Content → List ℕ
pick_of Old f = f.synced
pick_of New f = f.now
pick_of Ones f = f.ones

abbrev pub picked : Crash → Disk → Places
picked crash d = record { a = pick_of crash d.a; b = pick_of crash d.b; t = pick_of crash d.t }
