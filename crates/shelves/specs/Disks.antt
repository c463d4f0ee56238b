-- What a shelf in memory stores, and what a call adds to it.
use Rattle.std.specs.Prelude.{◌≡◌, ◌+◌, ℕ, [], ◌∷◌, ◌++◌, length, Option, Some}
use Rattle.outside.specs.declared.shelf.Place.{Place}
use Rattle.outside.specs.Places.{Places}
use Rattle.shelves.specs.declared.event.Event.{Event}
use Rattle.shelves.specs.declared.disk.Disk.{Disk}
use Rattle.shelves.specs.History.{Content, disk_at_first, after, on, reads, MayLeave, LeftSince, bytes_written}
use Rattle.shelves.specs.History as pure

abbrev pub first_of : Disk → Places
first_of d = record { a = d.first_a.items; b = d.first_b.items; t = d.first_t.items }

abbrev pub state_of : Disk → pure.Disk
state_of d = after (disk_at_first (first_of d)) d.events.items

-- what is known of its contents, what a crash may leave, the clock and what a crash since a moment may have left
abbrev pub seen_of : Disk → Option Places
seen_of d = Some (reads (state_of d))

abbrev pub left_of : Disk → Places → Type 0
left_of d = MayLeave (state_of d)

abbrev pub moment_of : Disk → ℕ
moment_of d = length d.events.items

abbrev pub left_since_of : Disk → ℕ → Places → Type 0
left_since_of d = LeftSince (disk_at_first (first_of d)) d.events.items

abbrev pub written_of : Disk → ℕ
written_of d = bytes_written d.events.items

-- one event more, by which one place changes
pub record Went (place : Place) (change : Content → Content) (bytes : ℕ) (old new : Disk) : Type 0 where
  pub first : first_of new ≡ first_of old
  pub event : Event
  pub events : new.events.items ≡ old.events.items ++ event ∷ []
  pub state : state_of new ≡ on place change (state_of old)
  pub written : written_of new ≡ written_of old + bytes
