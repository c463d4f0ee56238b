-- Days, years and moments as numbers. Day 0 is 1970-01-01, and moment 0 its first second in UTC.
use Rattle.std.specs.Prelude.{ℕ, ◌+◌, ◌&&◌, ◌==◌, nat_lt, nat_le, if◌then◌else◌, List, length, Option, Some, None, option_map, ℤ, pos, negsuc}
use Rattle.std.specs.Option.{option_or}
use Rattle.jiff_core.specs.Calendar.{days_in_month, days_from_civil}
use Rattle.kit.specs.Numbers.{number}
use Rattle.mail_date.specs.Names.{months, index_in}
use Rattle.kit.specs.Options.{◌>>=◌}

-- the day number of 9999-12-31
abbrev pub last_day : ℕ
last_day = 2932896

-- the number, if it is not negative
abbrev pub natural : ℤ → Option ℕ
natural (pos n) = Some n
natural (negsuc n) = None

-- the number of a day, negative before 1970, if its month has the day
abbrev pub day_number : ℕ → ℕ → ℕ → Option ℤ
day_number year month day =
    if nat_le 1 day && nat_le day (days_in_month (pos year) month)
    then Some (days_from_civil (pos year) month day) else None

-- the year that 2 or 3 digits mean, counted from 1900, or from 2000 if they are 2 below 50 (RFC 5322, section 4.3)
abbrev pub short_year : List ℕ → Option ℕ
short_year word =
    option_map (λ n. if (length word == 2) && nat_lt n 50 then 2000 + n else 1900 + n) (number 2 3 word)

-- the year that 2 to 4 digits mean, where 4 are the whole of it
abbrev pub year_of : List ℕ → Option ℕ
year_of word = option_or (number 4 4 word) (short_year word)

-- the number of the day that the words for a day, a month and a year name
abbrev pub day_of : List ℕ → List ℕ → List ℕ → Option ℤ
day_of day month year = do
  d ← number 1 2 day
  m ← index_in months month
  y ← year_of year
  day_number y (m + 1) d
