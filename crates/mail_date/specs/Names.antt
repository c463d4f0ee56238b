-- The names of weekdays and months (RFC 5322, section 3.3).
use Rattle.std.specs.Prelude.{ℕ, List, [], ◌∷◌, codes, position, Option}
use Rattle.kit.specs.Letters.{same_name}

abbrev pub weekdays : List (List ℕ)
weekdays = codes "Mon" ∷ codes "Tue" ∷ codes "Wed" ∷ codes "Thu" ∷ codes "Fri" ∷ codes "Sat" ∷ codes "Sun" ∷ []

abbrev pub months : List (List ℕ)
months =
    codes "Jan" ∷ codes "Feb" ∷ codes "Mar" ∷ codes "Apr" ∷ codes "May" ∷ codes "Jun"
    ∷ codes "Jul" ∷ codes "Aug" ∷ codes "Sep" ∷ codes "Oct" ∷ codes "Nov" ∷ codes "Dec" ∷ []

-- the index of a name in a table, where the case of letters does not count
abbrev pub index_in : List (List ℕ) → List ℕ → Option ℕ
index_in table name = position (same_name name) table
