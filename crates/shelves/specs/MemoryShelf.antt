-- What is known of a shelf in memory.
use Rattle.std.specs.Prelude.{ℕ, ◌⊎◌, ◌+◌, ◌<◌, [], List, Option}
use Rattle.outside.specs.Places.{Places}
use Rattle.outside.specs.Schedule.{unstarted}
use Rattle.shelves.specs.declared.memory_shelf.MemoryShelf.{MemoryShelf}
use Rattle.shelves.specs.declared.call.Crash.{Crash}
use Rattle.shelves.specs.Calls.{Calls, RefusesNext}
use Rattle.shelves.specs.History.{Disk, picked}
use Rattle.shelves.specs.Disks as disks

-- its contents
abbrev pub seen_of : MemoryShelf → Option Places
seen_of shelf = disks.seen_of shelf.disk

-- what a crash may leave now
abbrev pub left_of : MemoryShelf → Places → Type 0
left_of shelf = disks.left_of shelf.disk

-- how many events there were
abbrev pub moment_of : MemoryShelf → ℕ
moment_of shelf = disks.moment_of shelf.disk

-- what a crash since a moment may have left
abbrev pub left_since_of : MemoryShelf → ℕ → Places → Type 0
left_since_of shelf = disks.left_since_of shelf.disk

-- how many bytes its events wrote
abbrev pub written_of : MemoryShelf → ℕ
written_of shelf = disks.written_of shelf.disk

abbrev pub faults_of : MemoryShelf → ℕ
faults_of shelf = shelf.faults.total

-- its calls so far, and which are refused
abbrev pub calls_of : MemoryShelf → Calls
calls_of shelf = shelf.log

-- how many bytes each place can hold
abbrev pub room_of : MemoryShelf → ℕ
room_of shelf = shelf.disk.room

-- no call so far, room for so many, and the numbers of those that are refused
abbrev pub no_calls : ℕ → List ℕ → Option ℕ → Calls
no_calls room fails stop = record { calls = []; room = room; schedule = unstarted fails; stop = stop }

-- the next call is refused, whichever it is
abbrev pub Refuses : MemoryShelf → Type 0
Refuses shelf = RefusesNext (calls_of shelf)

-- so is a write of n bytes, or there is no room for them
abbrev pub RefusesWrite : MemoryShelf → ℕ → ℕ → Type 0
RefusesWrite shelf at n = Refuses shelf ⊎ (room_of shelf < at + n)

-- what its history made of each place
abbrev pub state_of : MemoryShelf → Disk
state_of shelf = disks.state_of shelf.disk

-- what this crash leaves
abbrev pub outcome_of : Crash → MemoryShelf → Places
outcome_of crash shelf = picked crash (state_of shelf)
