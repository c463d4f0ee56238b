-- What a reader holds by its buffer.
use Rattle.std.specs.Prelude.{ℕ, Bool, true, false, List, ◌++◌}
use Rattle.mboxrd.specs.Remaining.{from_text}

-- after a separator line was found, whose `From ` was read, with that before it
abbrev pub with_from : Bool → List ℕ → List ℕ
with_from true held = from_text ++ held
with_from false held = held
