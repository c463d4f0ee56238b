-- What making the changes of T answers.
use Rattle.std.specs.Prelude.{◌≡◌, ℕ, Result, Ok, Err}
use Rattle.outside.specs.declared.faults.StateFault.{StateFault}
use Rattle.tail_journal.specs.Read.{Fails}

-- what was made is what the changes of T make
abbrev pub Makes : {T X : Type 0} → Result T StateFault → X → Result X ℕ → Type 0
Makes (Ok _) after made = made ≡ Ok after
Makes (Err why) after made = Fails why made
