-- The ids in the body of a field (RFC 5322, section 3.6.4; for words without angle brackets its section 4.5.4).
use Rattle.std.specs.Prelude.{ℕ, not, ◌||◌, ◌==◌, if◌then◌else◌, List, [], ◌∷◌, ◌++◌, map, filter, Option, Some, None}
use Rattle.std.specs.List.{slice_split, list_any}
use Rattle.kit.specs.Ids.{is_id}
use Rattle.kit.specs.White.{is_white}

-- What is between each < (60) and the next > (62), from the left. The first argument is what an angle that is open has so
-- far; one that is never closed gives nothing.
abbrev pub angles_from : Option (List ℕ) → List ℕ → List (List ℕ)
angles_from inside [] = []
angles_from None (b ∷ bs) = angles_from (if b == 60 then Some [] else None) bs
angles_from (Some inside) (b ∷ bs) = if b == 62 then inside ∷ angles_from None bs else angles_from (Some (inside ++ b ∷ [])) bs

abbrev pub angles : List ℕ → List (List ℕ)
angles bytes = angles_from None bytes

abbrev pub without_white : List ℕ → List ℕ
without_white bytes = filter (λ b. not (is_white b)) bytes

-- the words between white space and commas (44) that hold an @ (64)
abbrev pub at_words : List ℕ → List (List ℕ)
at_words bytes = filter (list_any (λ b. b == 64)) (slice_split (λ b. is_white b || b == 44) bytes)

-- the ids among the angles, where a < is present, else among those words
abbrev pub ids : List ℕ → List (List ℕ)
ids bytes = filter is_id (if list_any (λ b. b == 60) bytes then map without_white (angles bytes) else at_words bytes)
