-- Why kept state is not read.
use Rattle.std.specs.Prelude.{◌≡◌, ℕ, Result, Ok, Err}
use Rattle.outside.specs.declared.shelf.Place.{Place}
use Rattle.outside.specs.declared.faults.StateFault.{StateFault}
use Rattle.outside.specs.declared.faults.StateFault.TheVariants as fault

-- Damage comes where it is found, with its place and the offset there. The shelf may fail, and memory may run out.
abbrev pub Fails : {Y : Type 0} → StateFault → Result Y (Place × ℕ) → Type 0
Fails (fault.Damaged place at) found = found ≡ Err (place, at)
Fails fault.Disk found = Unit {0}
Fails fault.Memory found = Unit {0}

-- what is answered, seen by view, is what is found, unless it fails so
abbrev pub Gives : {X Y : Type 0} → (X → Y) → Result X StateFault → Result Y (Place × ℕ) → Type 0
Gives view (Ok x) found = found ≡ Ok (view x)
Gives view (Err why) found = Fails why found
