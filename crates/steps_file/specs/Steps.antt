-- The steps that lines are.
use Rattle.std.specs.Prelude.{ℕ, nat_le, if◌then◌else◌, bytes_eq, codes, List, Option, Some, None, option_map}
use Rattle.std.specs.Option.{option_or}
use Rattle.kit.specs.Cuts.{strip_prefix}
use Rattle.kit.specs.Moments.{last_moment}
use Rattle.kit.specs.Numbers.{number}
use Rattle.kit.specs.Options.{◌>>=◌}
use Rattle.steps_file.specs.declared.step.Step.{Step}
use Rattle.steps_file.specs.declared.step.Step.TheVariants.{Next, Expunge, Seen, At}

-- the greatest uid, 2 ^ 32 - 1
abbrev pub last_uid : ℕ
last_uid = 4294967295

-- the number that 1 to 12 digits write, if it is at most so much
abbrev pub number_to : ℕ → List ℕ → Option ℕ
number_to most digits = number 1 12 digits >>= λ n. if nat_le n most then Some n else None

-- the step that is made of the number after a word
abbrev pub named : List ℕ → ℕ → (ℕ → Step) → List ℕ → Option Step
named word most make line = strip_prefix line word >>= λ digits. option_map make (number_to most digits)

-- the step that the content of a line is, if it is one
abbrev pub step_of : List ℕ → Option Step
step_of line =
    if bytes_eq line (codes "next") then Some Next
    else option_or (named (codes "expunge ") last_uid Expunge line)
    (option_or (named (codes "seen ") last_uid Seen line) (named (codes "at ") last_moment At line))
