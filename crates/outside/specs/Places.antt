-- The contents of the three places of a shelf.
use Rattle.std.specs.Prelude.{◌≡◌, ℕ, List, codes}
use Rattle.outside.specs.declared.shelf.Place.{Place}
use Rattle.outside.specs.declared.shelf.Place.TheVariants.{A, B, T}

pub record Places : Type 0 where
  pub a : List ℕ
  pub b : List ℕ
  pub t : List ℕ

-- the name of a place
abbrev pub place_name : Place → List ℕ
place_name A = codes "a"
place_name B = codes "b"
place_name T = codes "tail"

-- the content of one of them
abbrev pub content : Places → Place → List ℕ
content places A = places.a
content places B = places.b
content places T = places.t

-- the content of one place changes so, and the others stay
abbrev pub Changes : Place → (List ℕ → List ℕ → Type 0) → Places → Places → Type 0
Changes A change old new = change old.a new.a × (new.b ≡ old.b) × (new.t ≡ old.t)
Changes B change old new = (new.a ≡ old.a) × change old.b new.b × (new.t ≡ old.t)
Changes T change old new = (new.a ≡ old.a) × (new.b ≡ old.b) × change old.t new.t

-- the content of the other two places stays
abbrev pub OthersStay : Place → Places → Places → Type 0
OthersStay A old new = (new.b ≡ old.b) × (new.t ≡ old.t)
OthersStay B old new = (new.a ≡ old.a) × (new.t ≡ old.t)
OthersStay T old new = (new.a ≡ old.a) × (new.b ≡ old.b)
