-- The moment that a body names: a table over its words (RFC 5322, sections 3.3 and 4.3).
use Rattle.std.specs.Prelude.{ℕ, ◌+ℤ◌, ◌-ℤ◌, ◌*ℤ◌, nat_le, if◌then◌else◌, List, [], ◌∷◌, Option, Some, None, is_some, ℤ, pos}
use Rattle.mail_date.specs.Clock.{second_of_day}
use Rattle.mail_date.specs.Days.{day_of, natural}
use Rattle.mail_date.specs.Names.{index_in, weekdays}
use Rattle.kit.specs.Moments.{last_moment}
use Rattle.kit.specs.Options.{◌>>=◌}
use Rattle.mail_date.specs.Words.{words}
use Rattle.mail_date.specs.Zones.{zone_offset}

-- so many seconds after 1970-01-01 00:00:00 UTC, if that is in the years 1970 to 9999
abbrev pub as_moment : ℤ → Option ℕ
as_moment seconds = natural seconds >>= λ n. if nat_le n last_moment then Some n else None

-- a leading weekday is skipped
abbrev pub without_weekday : List (List ℕ) → List (List ℕ)
without_weekday [] = []
without_weekday (word ∷ more) = if is_some (index_in weekdays word) then more else word ∷ more

-- by how many seconds the zone that the next word names is ahead of UTC, and 0 where no word is left
abbrev pub next_offset : List (List ℕ) → ℤ
next_offset [] = pos 0
next_offset (word ∷ more) = zone_offset word

-- a day, a month, a year and a time, then maybe a zone, then anything
abbrev pub moment_of_words : List (List ℕ) → Option ℕ
moment_of_words (day ∷ month ∷ year ∷ clock ∷ more) = do
  days ← day_of day month year
  second ← second_of_day clock
  as_moment (((pos 86400 *ℤ days) +ℤ pos second) -ℤ next_offset more)
moment_of_words _ = None

-- the moment, in seconds since 1970-01-01 00:00:00 UTC; the weekday need not be that of the day
unfoldable pub moment : List ℕ → Option ℕ
moment body = moment_of_words (without_weekday (words body))
