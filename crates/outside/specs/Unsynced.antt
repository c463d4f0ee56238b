-- What a crash may leave of one place, by the calls since its last sync.
use Rattle.std.specs.Prelude.{◌≡◌, ◌⊎◌, ◌<◌, ◌≤◌, ◌+◌, ℕ, List, [], ◌∷◌, length, slice_get, min, max, ⊤}
use Rattle.outside.specs.declared.shelf.Place.{Place}
use Rattle.outside.specs.Places.{Places, content}
use Rattle.outside.specs.Crash.{Torn, PartlyCut}

-- a call that no sync of its place has followed: a write of n bytes at an offset, or a cut to n bytes
pub data Unsynced : Type 0 where
  Write : (at n : ℕ) → Unsynced
  Cut : (n : ℕ) → Unsynced

-- what a crash may leave of a place that held these bytes at its last sync, after these calls, the latest first
abbrev pub Leaves : List ℕ → List Unsynced → List ℕ → Type 0
Leaves synced [] c = c ≡ synced
Leaves synced (Write at n ∷ calls) c = (d : List ℕ) × Leaves synced calls d × Torn at n d c
Leaves synced (Cut n ∷ calls) c = (d : List ℕ) × Leaves synced calls d × PartlyCut n d c

-- none of the writes has the byte at this offset in its range
abbrev pub IsUnwritten : ℕ → List Unsynced → Type 0
IsUnwritten i [] = ⊤
IsUnwritten i (Write at n ∷ calls) = ((i < at) ⊎ (at + n ≤ i)) × IsUnwritten i calls
IsUnwritten i (Cut n ∷ calls) = IsUnwritten i calls

-- none of the cuts takes the byte at this offset away
abbrev pub IsUncut : ℕ → List Unsynced → Type 0
IsUncut i [] = ⊤
IsUncut i (Write at n ∷ calls) = IsUncut i calls
IsUncut i (Cut n ∷ calls) = (i < n) × IsUncut i calls

-- the size of the place after these calls, from its size at the sync; a write begins at the end at most
abbrev pub size_now : ℕ → List Unsynced → ℕ
size_now size [] = size
size_now size (Write at n ∷ calls) = max (size_now size calls) (at + n)
size_now size (Cut n ∷ calls) = n

-- each write began at the end at most, and each cut was to no more than the size
abbrev pub AreMet : ℕ → List Unsynced → Type 0
AreMet size [] = ⊤
AreMet size (Write at n ∷ calls) = (at ≤ size_now size calls) × AreMet size calls
AreMet size (Cut n ∷ calls) = (n ≤ size_now size calls) × AreMet size calls

-- the least and the greatest size that the place had since the sync
abbrev pub least_size : ℕ → List Unsynced → ℕ
least_size size [] = size
least_size size (call ∷ calls) = min (least_size size calls) (size_now size (call ∷ calls))

abbrev pub greatest_size : ℕ → List Unsynced → ℕ
greatest_size size [] = size
greatest_size size (call ∷ calls) = max (greatest_size size calls) (size_now size (call ∷ calls))

-- The disk model: what a crash may leave of a place that held these bytes at its last sync, after these calls.
pub record KeepsModel (synced : List ℕ) (calls : List Unsynced) (c : List ℕ) : Type 0 where
  -- each byte that lies in no range that was written stays
  pub others_stay : (i : ℕ) → i < length c → IsUnwritten i calls → slice_get c i ≡ slice_get synced i
  -- the size is between the least and the greatest that the place had
  pub no_shorter : least_size (length synced) calls ≤ length c
  pub no_longer : length c ≤ greatest_size (length synced) calls

-- each crash outcome has in this place what these calls may leave of the synced bytes
abbrev pub LeaveAt : Place → List ℕ → List Unsynced → (Places → Type 0) → Type 0
LeaveAt place synced calls outcomes = (c : Places) → outcomes c → Leaves synced calls (content c place)
