-- The prefix that is kept of what comes in chunks.
use Rattle.std.specs.Prelude.{◌≡◌, ℕ, List, ◌++◌, take}

-- the bytes that are kept, and the most that may be
pub record Kept : Type 0 where
  pub bytes : List ℕ
  pub limit : ℕ

-- these bytes were added, and of all that was added the prefix is kept
pub record Keeps (old new : Kept) (added : List ℕ) : Type 0 where
  pub limit : new.limit ≡ old.limit
  pub bytes : take new.limit new.bytes ≡ take old.limit (old.bytes ++ added)
