-- The time of a day: h:m or h:m:s.
use Rattle.std.specs.Prelude.{ℕ, ◌+◌, ◌*◌, List, codes, Option, Some, unwrap_or, min}
use Rattle.kit.specs.Cuts.{split_once}
use Rattle.mail_date.specs.Digits.{number_to}
use Rattle.kit.specs.Options.{◌>>=◌}

-- the second of the day at a time, where a leap second is the second before it again
abbrev pub second_at : List ℕ → List ℕ → List ℕ → Option ℕ
second_at hour minute second = do
  h ← number_to 23 hour
  m ← number_to 59 minute
  s ← number_to 60 second
  Some (3600 * h + 60 * m + min s 59)

-- the second of the day that h:m:s names, or h:m, which is h:m:0; a colon is byte 58
abbrev pub second_of_day : List ℕ → Option ℕ
second_of_day clock = do
  (hour, rest) ← split_once clock 58
  let (minute, second) = unwrap_or (split_once rest 58) (rest, codes "0") in second_at hour minute second
