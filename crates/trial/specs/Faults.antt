-- Why a trial is not made or not printed, and what was put of it.
use Rattle.std.specs.Prelude.{◌≡◌, Option, Some, None, Result, Ok, Err, ⊤}
use Rattle.std.specs.Io.KnownBytes.{Appends}
use Rattle.outside.specs.Bytes.{AppendsPrefix}
use Rattle.outside.specs.declared.faults.PrintFault.{PrintFault}
use Rattle.outside.specs.declared.faults.PrintFault.TheVariants as print
use Rattle.mailbox_model.specs.Lists.{Bytes}
use Rattle.mailbox_model.specs.Mailbox.{Mailbox}
use Rattle.trial.specs.declared.fault.TrialFault.{TrialFault}
use Rattle.trial.specs.declared.fault.TrialFault.TheVariants as fault

-- At Ok the line was put whole, and at Write a prefix of it. There is none exactly at Full, but that memory may run out before.
abbrev pub Puts : Option Bytes → Option Bytes → Option Bytes → Result Unit TrialFault → Type 0
Puts (Some line) old new (Ok _) = Appends old new line
Puts (Some line) old new (Err fault.Write) = AppendsPrefix old new line
Puts None old new (Err fault.Full) = ⊤
Puts line old new (Err fault.Memory) = ⊤
Puts line old new result = ⊥

-- why a mailbox was not made, where this is the one that was to be
abbrev pub IsUnmade : Option Mailbox → TrialFault → Type 0
IsUnmade None fault.Full = ⊤
IsUnmade m fault.Memory = ⊤
IsUnmade m why = ⊥

-- a mailbox was made, which is this one then, or this is why not
abbrev pub Makes : Option Mailbox → Result Unit TrialFault → Mailbox → Type 0
Makes expected (Ok _) new = expected ≡ Some new
Makes expected (Err why) new = IsUnmade expected why

abbrev pub print_fault : PrintFault → TrialFault
print_fault print.Write = fault.Write
print_fault print.Memory = fault.Memory
