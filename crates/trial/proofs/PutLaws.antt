-- What is put of a trial.
use Rattle.std.proofs.Common.{◌≡◌, ℕ, ◌+◌, Option, None, Some, Ok, Err, option_map, refl, sym, ap, subst, ◌∙◌}
use Rattle.std.specs.Prelude.{◌≢◌}
use Rattle.std.specs.Io.KnownBytes.{Appends}
use Rattle.std.specs.Option.{option_map_or}
use Rattle.outside.specs.Bytes.{AppendsPrefix}
use Rattle.outside.specs.declared.faults.PrintFault.{PrintFault}
use Rattle.outside.specs.declared.faults.PrintFault.TheVariants as print
use Rattle.mailbox_model.specs.Lists.{Bytes}
use Rattle.mailbox_model.specs.Mailbox.{Mailbox}
use Rattle.trial.specs.declared.fault.TrialFault.{TrialFault}
use Rattle.trial.specs.declared.fault.TrialFault.TheVariants as fault
use Rattle.trial.specs.declared.summary.Summary.{Summary}
use Rattle.trial.specs.Costs.{making_cost, summary_cost, trial_cost}
use Rattle.trial.specs.Faults.{IsUnmade, Puts, print_fault}
use Rattle.trial.specs.Summaries.{summary_of, summary_text, trial_text}
use Rattle.trial.specs.Trials.{trial_mailbox}

-- where the mailbox is not made there is no line, or memory ran out
pub unmade_put : (me : Bytes) (number : ℕ) (old new : Option Bytes) (why : TrialFault) → IsUnmade (trial_mailbox me number) why → Puts (trial_text me number) old new (Err why)
unmade_put me number old new = by (trial_mailbox me number)
  where
    by : (m : Option Mailbox) (why : TrialFault) → IsUnmade m why → Puts (option_map (λ m. summary_text number (summary_of m)) m) old new (Err why)
    by None fault.Full h = tt
    by None fault.Write h = absurd h
    by None fault.Memory h = tt
    by (Some m) fault.Full h = absurd h
    by (Some m) fault.Write h = absurd h
    by (Some m) fault.Memory h = tt

pub memory_put : (line old new : Option Bytes) → Puts line old new (Err fault.Memory)
memory_put None old new = tt
memory_put (Some line) old new = tt

-- the line of the mailbox that is made
line_of : (me : Bytes) (number : ℕ) (m : Mailbox) (s : Summary) → trial_mailbox me number ≡ Some m → s ≡ summary_of m → trial_text me number ≡ Some (summary_text number s)
line_of me number m s made is = ap (option_map (λ m. summary_text number (summary_of m))) made ∙ ap (λ (s : Summary). Some (summary_text number s)) (sym is)

pub line_put : (me : Bytes) (number : ℕ) (m : Mailbox) (s : Summary) (old new : Option Bytes) → trial_mailbox me number ≡ Some m → s ≡ summary_of m
    → Appends old new (summary_text number s) → Puts (trial_text me number) old new (Ok tt)
line_put me number m s old new made is put = subst (λ line. Puts line old new (Ok tt)) (sym (line_of me number m s made is)) put

pub line_not_put : (me : Bytes) (number : ℕ) (m : Mailbox) (s : Summary) (old new : Option Bytes) (why : PrintFault) → trial_mailbox me number ≡ Some m → s ≡ summary_of m
    → (why ≡ print.Write → AppendsPrefix old new (summary_text number s)) → Puts (trial_text me number) old new (Err (print_fault why))
line_not_put me number m s old new print.Write made is put =
    subst (λ line. Puts line old new (Err fault.Write)) (sym (line_of me number m s made is)) (put refl)
line_not_put me number m s old new print.Memory made is put = memory_put (trial_text me number) old new

-- what the changes and the questions may cost
pub cost_of : (me : Bytes) (number : ℕ) (m : Mailbox) → trial_mailbox me number ≡ Some m → trial_cost me number ≡ making_cost me number + summary_cost m
cost_of me number m made = ap (λ o. making_cost me number + option_map_or summary_cost o 0) made

-- a fault of the sink alone
pub write_alone : (why : PrintFault) → print_fault why ≡ fault.Write → why ≡ print.Write
write_alone print.Write is = refl
write_alone print.Memory is = absurd cc

-- at every other refusal than that of the sink
pub memory_alone : (why : PrintFault) → print_fault why ≢ fault.Write → why ≡ print.Memory
memory_alone print.Write other = absurd (other refl)
memory_alone print.Memory other = refl
