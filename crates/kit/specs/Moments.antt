-- Moments: seconds since 1970-01-01 00:00:00 UTC.
use Rattle.std.specs.Prelude.{ℕ}

-- the last second of the year 9999
abbrev pub last_moment : ℕ
last_moment = 253402300799
