-- What a call does to the contents of a shelf, and to what a crash may leave of them: the disk model, call by call.
use Rattle.std.specs.Prelude.{◌≡◌, ◌⊎◌, ◌≤◌, ◌+◌, ◌++◌, ℕ, List, length, take, drop, min, max, ⊤, None, Some, Option}
use Rattle.outside.specs.declared.shelf.Place.{Place}
use Rattle.outside.specs.Places.{Places, content}

-- new is old with these bytes at this offset
abbrev pub Holds : ℕ → List ℕ → List ℕ → List ℕ → Type 0
Holds at bytes old new = new ≡ take at old ++ bytes ++ drop (at + length bytes) old

-- what a crash may make of a write of n bytes: any bytes in its range, as many of those past the old end as it
-- likes, and elsewhere the same as before
pub record Torn (at n : ℕ) (old new : List ℕ) : Type 0 where
  pub before : take at new ≡ take at old
  pub after : drop (at + n) new ≡ drop (at + n) old
  pub no_shorter : length old ≤ length new
  pub no_longer : length new ≤ max (length old) (at + n)

-- what a crash may make of a cut to n bytes: some size between; what is shorter already stays
pub record PartlyCut (n : ℕ) (old new : List ℕ) : Type 0 where
  pub no_longer : length new ≤ length old
  pub no_shorter : min n (length old) ≤ length new
  pub front : take (length new) old ≡ new

-- the contents are known before a call and after it, and are related so, or they are known neither before nor after
abbrev pub IfKnown : Option Places → Option Places → (Places → Places → Type 0) → Type 0
IfKnown None None P = ⊤
IfKnown None (Some new) P = ⊥
IfKnown (Some old) None P = ⊥
IfKnown (Some old) (Some new) P = P old new

-- each crash outcome after a call comes so of one before it
abbrev pub Follows : (Places → Places → Type 0) → (Places → Type 0) → (Places → Type 0) → Type 0
Follows change old new = (c : Places) → new c → (d : Places) × old d × change d c

-- each crash outcome after a call was one before it
abbrev pub WasOutcome : (Places → Type 0) → (Places → Type 0) → Type 0
WasOutcome old new = (c : Places) → new c → old c

-- the crash outcomes are the same after a call as before it
pub record SameOutcomes (old new : Places → Type 0) : Type 0 where
  pub none_more : WasOutcome old new
  pub none_less : WasOutcome new old

-- in each crash outcome the place has this content
abbrev pub OnlyAt : Place → List ℕ → (Places → Type 0) → Type 0
OnlyAt place bytes outcomes = (c : Places) → outcomes c → content c place ≡ bytes

-- The clock goes on: a crash since t may have left what one before the call may have left, or what one may leave now.
pub record Elapses (before now : ℕ) (past since : ℕ → Places → Type 0) (may_leave : Places → Type 0) : Type 0 where
  pub later : before ≤ now
  pub nothing_else : (t : ℕ) (c : Places) → t ≤ before → since t c → past t c ⊎ may_leave c
  pub keeps : (t : ℕ) (c : Places) → t ≤ before → past t c → since t c

-- a count rises by at most n
pub record RisesUpTo (n before now : ℕ) : Type 0 where
  pub later : before ≤ now
  pub bound : now ≤ before + n
