-- What a store knows of its shelf, and what an opening answers.
use Rattle.std.specs.Prelude.{◌≡◌, ℕ, List, map, Option, None, Some, is_some, Result, Ok, Err}
use Rattle.outside.specs.Places.{Places}
use Rattle.checkpoint.specs.Slots.{chosen_of}
use Rattle.checkpoint.specs.Kept.{number_of, seen_kept}
use Rattle.checkpoint.specs.Known.{Knows}
use Rattle.tail_journal.specs.Groups.{Reading, reading}
use Rattle.tail_journal.specs.Tails.{IsTail}
use Rattle.tail_journal.specs.Read.{applied_of, EndsThere}
use Rattle.state_store.specs.Commits.{Fill}
use Rattle.state_store.specs.Stands.{Found, found_of}
use Rattle.state_store.specs.declared.store.Store.{Store}
use Rattle.state_store.specs.States.{State, state_of}
use Rattle.state_store.specs.declared.opening.Contents.{Contents}
use Rattle.state_store.specs.declared.store.Opened.{Opened}

-- The three places are settled, the store knows what it has to of them, and reading T from the count of the chosen slot
-- comes to the end of it.
pub record IsStored (store : Store) (outcomes : Places → Type 0) (places : Places) : Type 0 where
  pub slots : Knows store.slots outcomes places
  pub tail : IsTail store.tail outcomes places
  pub chosen : store.chosen ≡ is_some (chosen_of places)
  pub ends : EndsThere (number_of (chosen_of places)) places.t

-- ---- an opening

-- where a reading ends; what is damaged is not opened
abbrev pub end_of : Result Reading ℕ → ℕ
end_of (Ok r) = r.end
end_of (Err at) = 0

-- how many bytes of T are read from the count of the chosen slot on, and none where there is no such slot
abbrev pub read_size : Option ℕ → List ℕ → ℕ
read_size None bytes = 0
read_size (Some count) bytes = end_of (reading count bytes)

-- how full the store is that opens these places
abbrev pub fill_in : Places → Fill
fill_in places = record { chosen = is_some (chosen_of places); tail = read_size (number_of (chosen_of places)) places.t }

abbrev pub found_in : Contents → Found
found_in contents = record { kept = seen_kept contents.kept; groups = map applied_of contents.groups.items }

abbrev pub state_in : Opened → State
state_in opened = state_of (opened.mailbox, opened.position)

-- the same is found
abbrev pub SameFound : Places → Places → Type 0
SameFound old new = found_of new ≡ found_of old
