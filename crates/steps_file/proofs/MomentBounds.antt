-- The moment of a step is one that is read and printed.
use Rattle.std.proofs.Common.{◌≡◌, ℕ, ◌≤◌, true, false, nat_eq, nat_le, List, length, drop, Option, Some, None, subst, arith, inl, inr}
use Rattle.std.specs.Prelude.{⊤, if◌then◌else◌, bytes_eq, codes, option_map, IfSome}
use Rattle.std.specs.List.{starts_with}
use Rattle.std.specs.Option.{option_or}
use Rattle.std.proofs.lemmas.Bool.{cases_Bool}
use Rattle.std.proofs.lemmas.Bool.Decides.{nat_tests}
use Rattle.kit.specs.Moments.{last_moment}
use Rattle.kit.specs.Numbers.{number}
use Rattle.kit.specs.Options.{◌>>=◌}
use Rattle.steps_file.specs.declared.step.Step.{Step}
use Rattle.steps_file.specs.declared.step.Step.TheVariants.{Expunge, Seen, At}
use Rattle.steps_file.specs.declared.taken.Taken.TheVariants as taken
use Rattle.steps_file.specs.Steps.{step_of, named, number_to, last_uid}
use Rattle.steps_file.specs.Answers.{answer_of}

abbrev InTime : Step → Type 0
InTime (At n) = n ≤ last_moment
InTime _ = ⊤

bounded : (most : ℕ) (o : Option ℕ) → IfSome (o >>= λ n. if nat_le n most then Some n else None) (λ n. n ≤ most)
bounded most None = tt
bounded most (Some n) = elim (cases_Bool (nat_le n most)) [
  | inl fits ↦ rw fits (grind (arith, nat_tests))
  | inr not ↦ rw not tt
]

mapped : (make : ℕ → Step) (most : ℕ) (o : Option ℕ) → ((n : ℕ) → n ≤ most → InTime (make n)) → IfSome o (λ n. n ≤ most) → IfSome (option_map make o) InTime
mapped make most None fine h = tt
mapped make most (Some n) fine h = fine n h

named_in_time : (word : List ℕ) (most : ℕ) (make : ℕ → Step) (line : List ℕ) → ((n : ℕ) → n ≤ most → InTime (make n)) → IfSome (named word most make line) InTime
named_in_time word most make line fine =
    let digits = drop (length word) line in
    elim (starts_with nat_eq line word) as (λ v. IfSome ((if v then Some digits else None) >>= λ rest. option_map make (number_to most rest)) InTime)
    [ true ↦ mapped make most (number_to most digits) fine (bounded most (number 1 12 digits)) | false ↦ tt ]

either : (o p : Option Step) → IfSome o InTime → IfSome p InTime → IfSome (option_or o p) InTime
either None p a b = b
either (Some s) p a b = a

step_in_time : (line : List ℕ) → IfSome (step_of line) InTime
step_in_time line =
    let at = named_in_time (codes "at ") last_moment At line (λ n h. h) in
    let seen = named_in_time (codes "seen ") last_uid Seen line (λ n h. tt) in
    let expunge = named_in_time (codes "expunge ") last_uid Expunge line (λ n h. tt) in
    elim (cases_Bool (bytes_eq line (codes "next"))) [
      | inl next ↦ rw next tt
      | inr other ↦ rw other (either (named (codes "expunge ") last_uid Expunge line) _ expunge (either (named (codes "seen ") last_uid Seen line) _ seen at))
    ]

answered : (o : Option Step) (n : ℕ) → IfSome o InTime → answer_of o ≡ taken.Step (At n) → n ≤ last_moment
answered None n fine e = absurd (cc)
answered (Some s) n fine e = let is : s ≡ At n = cc in subst InTime is fine

pub moment_bound : (line : List ℕ) (n : ℕ) → answer_of (step_of line) ≡ taken.Step (At n) → n ≤ last_moment
moment_bound line n e = answered (step_of line) n (step_in_time line) e
