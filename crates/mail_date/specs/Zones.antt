-- Zones, by the seconds that they are ahead of UTC (RFC 5322, sections 3.3 and 4.3).
use Rattle.std.specs.Prelude.{ℕ, ◌+◌, ◌*◌, ◌/◌, ◌%◌, nat_eq, nat_le, if◌then◌else◌, List, [], ◌∷◌, codes, drop, find, Option, Some, None, option_map, unwrap_or, ℤ, pos, neg_ℤ}
use Rattle.std.specs.List.{starts_with}
use Rattle.kit.specs.Letters.{same_name}
use Rattle.kit.specs.Numbers.{number}
use Rattle.kit.specs.Options.{◌>>=◌}

-- the zones of North America, and by how many hours each is behind UTC
abbrev pub zones : List (List ℕ × ℕ)
zones =
    (codes "EDT", 4) ∷ (codes "EST", 5) ∷ (codes "CDT", 5) ∷ (codes "CST", 6) ∷ (codes "MDT", 6) ∷ (codes "MST", 7)
    ∷ (codes "PDT", 7) ∷ (codes "PST", 8) ∷ []

abbrev pub zone_hours : List ℕ → Option ℕ
zone_hours name = option_map (λ zone. zone.1) (find (λ zone. same_name name zone.0) zones)

-- by how many seconds the zone of a name is behind UTC: GMT, UT and every word that is not in the table by none
abbrev pub seconds_behind : List ℕ → ℕ
seconds_behind name = 3600 * unwrap_or (zone_hours name) 0

-- the seconds of hhmm
abbrev pub hours_and_minutes : List ℕ → Option ℕ
hours_and_minutes digits =
    number 4 4 digits >>= λ n. if nat_le (n % 100) 59 then Some (3600 * (n / 100) + 60 * (n % 100)) else None

-- the same, and 0 where the form is broken
abbrev pub offset : List ℕ → ℕ
offset digits = unwrap_or (hours_and_minutes digits) 0

-- by how many seconds a zone is ahead of UTC: +hhmm is, and -hhmm and the zones with names are behind
abbrev pub zone_offset : List ℕ → ℤ
zone_offset word =
    if starts_with nat_eq word (codes "+") then pos (offset (drop 1 word))
    else if starts_with nat_eq word (codes "-") then neg_ℤ (pos (offset (drop 1 word)))
    else neg_ℤ (pos (seconds_behind word))
