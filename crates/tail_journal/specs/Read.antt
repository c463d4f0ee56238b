-- What reading T answers.
use Rattle.std.specs.Prelude.{◌≡◌, ◌<◌, ◌≤◌, ◌^◌, ℕ, ⊤, List, [], ◌++◌, length, map, drop, Option, None, Some, Result, Ok, Err}
use Rattle.std.specs.List.{AllByRecursion}
use Rattle.outside.specs.declared.shelf.Place.{Place}
use Rattle.outside.specs.declared.shelf.Place.TheVariants.{T}
use Rattle.outside.specs.StateFaults as state
use Rattle.outside.specs.declared.faults.StateFault.{StateFault}
use Rattle.state_image.specs.Changes.{FitsChange}
use Rattle.tail_journal.specs.declared.group.Group.{Group}
use Rattle.card_record.specs.Reading.{◌>>=◌}
use Rattle.tail_journal.specs.Frames.{frames}
use Rattle.tail_journal.specs.Groups.{Applied, Reading, nothing_more, reading_on, reading}
use Rattle.tail_journal.specs.Tails.{ReadsAll}

abbrev pub applied_of : Group → Applied
applied_of group = record { position = group.position; changes = group.changes.items }

-- a group of valid changes, after which the count is within its limit, and there are no more lines than bytes of the steps file
pub record FitsApplied (group : Applied) : Type 0 where
  pub changes : AllByRecursion (λ change. FitsChange change.1) group.changes
  pub count : group.position.count ≤ 2 ^ 62
  pub lines : group.position.lines ≤ group.position.steps

-- damage in T, by its offset there
abbrev pub in_tail : {X : Type 0} → Result X ℕ → Result X (Place × ℕ)
in_tail (Ok x) = Ok x
in_tail (Err at) = Err (T, at)

-- What is answered, seen by view, is what is read of T, unless the shelf failed or memory ran out.
abbrev pub Fails : {Y : Type 0} → StateFault → Result Y ℕ → Type 0
Fails why read = state.Fails why (in_tail read)

abbrev pub Gives : {X Y : Type 0} → (X → Y) → Result X StateFault → Result Y ℕ → Type 0
Gives view (Ok x) read = read ≡ Ok (view x)
Gives view (Err why) read = Fails why read

-- ---- one frame after the other

-- a reading after these groups
abbrev pub after_groups : List Applied → Reading → Reading
after_groups groups r = record { groups = groups ++ r.groups; count = r.count; end = r.end }

-- One frame was taken: reading goes on at the next offset, with the later count, after the groups that came to the old ones.
pub record GoesOn (bytes : List ℕ) (at count next later : ℕ) (old new : List Group) : Type 0 where
  pub more : List Group
  pub groups : new ≡ old ++ more
  pub is : reading_on at count (frames (drop at bytes)) ≡ (reading_on next later (frames (drop next bytes)) >>= λ r. Ok (after_groups (map applied_of more) r))
  pub onward : at < next
  pub within : next ≤ length bytes

-- Reading ends here, and no group came.
pub record EndsAt (bytes : List ℕ) (at count : ℕ) (old new : List Group) : Type 0 where
  pub groups : new ≡ old
  pub is : reading_on at count (frames (drop at bytes)) ≡ Ok (nothing_more at count)

-- the groups of a reading, and where it ends
abbrev pub groups_of : Result Reading ℕ → Result (List Applied × ℕ) ℕ
groups_of read = read >>= λ r. Ok (r.groups, r.end)

-- ---- a whole reading of T

-- the groups that are applied from a count on; none without one
abbrev pub groups_from : Option ℕ → List ℕ → Result (List Applied) ℕ
groups_from None bytes = Ok []
groups_from (Some count) bytes = reading count bytes >>= λ r. Ok r.groups

-- From this count the same is read; without one nothing is said.
abbrev pub SameReading : Option ℕ → List ℕ → List ℕ → Type 0
SameReading None old new = ⊤
SameReading (Some count) old new = reading count new ≡ reading count old

-- Reading from this count comes to the end of the bytes; without one there are none.
abbrev pub EndsThere : Option ℕ → List ℕ → Type 0
EndsThere None bytes = bytes ≡ []
EndsThere (Some count) bytes = (r : Reading) × ReadsAll count bytes r
