-- The printed time of a moment.
use Rattle.std.specs.Prelude.{ℕ, zero, suc, ◌+◌, ◌-◌, ◌/◌, ◌%◌, nat_le, if◌then◌else◌, List, [], ◌∷◌, ◌++◌, codes, Option, Some, None, pos}
use Rattle.std.specs.Option.{option_map_or}
use Rattle.jiff_core.specs.Calendar.{days_in_year, days_in_month}

-- `n.checked_sub(k)`
abbrev pub checked_sub : ℕ → ℕ → Option ℕ
checked_sub n k = if nat_le k n then Some (n - k) else None

-- Whole spans are taken off a number of days: first the span `at`, which has `length_of at` days, and then those after
-- it. The span that is not whole any more, and the days left in it. The first argument is how many spans may be taken.
unfoldable pub span_and_rest : ℕ → (ℕ → ℕ) → ℕ → ℕ → ℕ × ℕ
span_and_rest zero length_of at days = (at, days)
span_and_rest (suc more) length_of at days =
    option_map_or (span_and_rest more length_of (at + 1)) (checked_sub days (length_of at)) (at, days)

-- a date of the calendar
pub record Civil : Type 0 where
  pub year : ℕ
  pub month : ℕ
  pub day : ℕ

-- The date so many days after 1970-01-01: whole years are taken off, and then whole months, no more of either than
-- there are days.
unfoldable pub civil_date : ℕ → Civil
civil_date days =
    let in_year = span_and_rest days (λ y. days_in_year (pos y)) 1970 days in
    let in_month = span_and_rest in_year.1 (days_in_month (pos in_year.0)) 1 in_year.1 in
    record { year = in_year.0; month = in_month.0; day = in_month.1 + 1 }

-- the digits of a number below 100, where 48 is the digit 0
abbrev pub two_digits : ℕ → List ℕ
two_digits n = (48 + n / 10) ∷ (48 + n % 10) ∷ []

-- the digits of a number below 10,000
abbrev pub four_digits : ℕ → List ℕ
four_digits n = two_digits (n / 100) ++ two_digits (n % 100)

-- YYYY-MM-DD
abbrev pub date_text : Civil → List ℕ
date_text date = four_digits date.year ++ codes "-" ++ two_digits date.month ++ codes "-" ++ two_digits date.day

-- HH:MM of a second of the day
abbrev pub clock_text : ℕ → List ℕ
clock_text second = two_digits (second / 3600) ++ codes ":" ++ two_digits (second % 3600 / 60)

-- YYYY-MM-DD HH:MM in UTC, of so many seconds since 1970-01-01 00:00:00 UTC
unfoldable pub time_text : ℕ → List ℕ
time_text moment = date_text (civil_date (moment / 86400)) ++ codes " " ++ clock_text (moment % 86400)
