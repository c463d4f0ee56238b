-- Values in chunks, and where one of them stands.
use Rattle.std.specs.Prelude.{◌≡◌, ℕ, ◌+◌, ◌<◌, List, [], ◌∷◌, ◌++◌, length, take, slice_index_or}

-- the values of all chunks
abbrev pub joined : {X : Type 0} → List (List X) → List X
joined [] = []
joined (xs ∷ xss) = xs ++ joined xss

-- the value at an index of all is the one at a place in a chunk
pub record IsPlace {X : Type 0} (chunks : List (List X)) (index chunk place : ℕ) : Type 0 where
  pub there : chunk < length chunks
  pub within : place < length (slice_index_or chunks chunk [])
  pub sum : length (joined (take chunk chunks)) + place ≡ index
