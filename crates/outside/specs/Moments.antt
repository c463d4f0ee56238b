-- Several calls of a shelf, one after the other.
use Rattle.std.specs.Prelude.{◌≡◌, ◌⊎◌, ◌≤◌, ℕ, Option, Some}
use Rattle.outside.specs.declared.shelf.Place.{Place}
use Rattle.outside.specs.Places.{Places, content}
use Rattle.outside.specs.Crash.{WasOutcome, OnlyAt}

-- A crash at any moment from old to new leaves what has P.
pub record LeavesOnly {D : Type 0} (moment : D → ℕ) (left_since : D → ℕ → Places → Type 0) (old new : D) (P : Places → Type 0) : Type 0 where
  pub later : moment old ≤ moment new
  pub each : (c : Places) → left_since new (moment old) c → P c
  -- for calls that began earlier
  pub before : (t : ℕ) (c : Places) → t ≤ moment old → left_since new t c → left_since old t c ⊎ P c

-- what comes so of a crash outcome
abbrev pub Reached : (Places → Type 0) → (Places → Places → Type 0) → Places → Type 0
Reached outcomes change c = (d : Places) × outcomes d × change d c

-- each crash outcome has in this place what a read gives
abbrev pub IsSettled : Place → Places → (Places → Type 0) → Type 0
IsSettled place places outcomes = OnlyAt place (content places place) outcomes

-- P holds of the contents where they are known
abbrev pub WhereKnown : Option Places → (Places → Type 0) → Type 0
WhereKnown seen P = (places : Places) → seen ≡ Some places → P places

-- the contents are known, and P holds of them
pub record IsKnown (seen : Option Places) (P : Places → Type 0) : Type 0 where
  pub places : Places
  pub is : seen ≡ Some places
  pub holds : P places

-- The contents before and after are related so; they are known before exactly where they are known after.
pub record KnownThen (old new : Option Places) (R : Places → Places → Type 0) : Type 0 where
  pub forth : (places : Places) → old ≡ Some places → IsKnown new (R places)
  pub back : (places : Places) → new ≡ Some places → IsKnown old (λ before. R before places)

-- No read changes, and a crash at any moment leaves what it might have left before.
pub record ChangesNoRead {D : Type 0} (seen : D → Option Places) (may_leave : D → Places → Type 0) (moment : D → ℕ) (left_since : D → ℕ → Places → Type 0) (old new : D) : Type 0 where
  pub reads : KnownThen (seen old) (seen new) (λ before after. after ≡ before)
  pub outcomes : WasOutcome (may_leave old) (may_leave new)
  pub any_moment : LeavesOnly moment left_since old new (may_leave old)
