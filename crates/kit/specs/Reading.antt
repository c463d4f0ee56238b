-- What a reader returns that is itself the test.
use Rattle.std.specs.Prelude.{ℕ, Bool, List, Option, Some, None, if◌then◌else◌}

-- the bytes themselves where they pass the test, else nothing
abbrev pub read_as : (List ℕ → Bool) → List ℕ → Option (List ℕ)
read_as test bytes = if test bytes then Some bytes else None
