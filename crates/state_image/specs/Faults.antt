-- The codes of the reasons why a mail has no card.
use Rattle.std.specs.Prelude.{ℕ, ◌==◌, Option, Some, None, if◌then◌else◌}
use Rattle.mailbox_model.specs.declared.change.Fault.{Fault}
use Rattle.mailbox_model.specs.declared.change.Fault.TheVariants.{NoFields, NoFrom, CardTooLong, TooLong}

abbrev pub code_of : Fault → ℕ
code_of NoFields = 1
code_of NoFrom = 2
code_of CardTooLong = 3
code_of TooLong = 4

abbrev pub fault_of : ℕ → Option Fault
fault_of code =
    if code == 1 then Some NoFields
    else if code == 2 then Some NoFrom
    else if code == 3 then Some CardTooLong
    else if code == 4 then Some TooLong
    else None
