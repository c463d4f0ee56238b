-- The first bytes of a list as one number, which settles most comparisons of two lists.
use Rattle.std.specs.Prelude.{◌≡◌, ℕ, zero, suc, ◌+◌, ◌*◌, ◌<◌, List, [], ◌∷◌, get_or}

-- 256 to the power of n
abbrev pub places : ℕ → ℕ
places zero = 1
places (suc n) = places n * 256

-- the number that the first n bytes are, the first of them the highest, with zeros where there are fewer
abbrev pub front : ℕ → List ℕ → ℕ
front zero bytes = 0
front (suc n) [] = 0
front (suc n) (b ∷ bytes) = b * places n + front n bytes

-- it is that of the first eight of these bytes
pub record IsFront (number : ℕ) (bytes : List ℕ) : Type 0 where
  pub is : number ≡ front 8 bytes
  pub fit : (i : ℕ) → get_or bytes i 0 < 256
