-- A line of more than 22 bytes, with those that end it, is no step.
use Rattle.std.proofs.Common.{◌≡◌, ℕ, ◌+◌, ◌-◌, ◌<◌, ◌≤◌, true, false, ◌&&◌, nat_eq, nat_le, List, length, take, drop, Some, None, refl, sym, ap, ◌∙◌, arith, length-drop, inl, inr}
use Rattle.std.specs.Prelude.{if◌then◌else◌, bytes_eq, codes, option_map}
use Rattle.std.specs.List.{starts_with, ends_with, list_all}
use Rattle.std.specs.Char.{is_ascii_digit}
use Rattle.std.specs.Str.Parse.{digits_value}
use Rattle.std.proofs.lemmas.Bool.{cases_Bool}
use Rattle.std.proofs.lemmas.Bool.Decides.{Decides-eqb, nat_tests}
use Rattle.std.proofs.lemmas.Slice.Eq.{slice_eq-Decides}
use Rattle.std.proofs.lemmas.List.{length-take, take_all}
use Rattle.kit.specs.Lines.{content, ending_len}
use Rattle.kit.specs.Moments.{last_moment}
use Rattle.kit.specs.Numbers.{number}
use Rattle.kit.specs.Options.{◌>>=◌}
use Rattle.steps_file.specs.declared.step.Step.{Step}
use Rattle.steps_file.specs.declared.step.Step.TheVariants.{Expunge, Seen, At}
use Rattle.steps_file.specs.Steps.{step_of, named, number_to, last_uid}

nat_le_no : (m n : ℕ) → n < m → nat_le m n ≡ false
nat_le_no m n lt = grind (arith, nat_tests)

number_long : (digits : List ℕ) → 12 < length digits → number 1 12 digits ≡ None
number_long digits long = rw (nat_le_no (length digits) 12 long)
    (elim (nat_le 1 (length digits)) as (λ v. (if (v && false) && list_all is_ascii_digit digits then Some (digits_value 10 digits) else None) ≡ None) [ true ↦ refl | false ↦ refl ])

number_to_long : (most : ℕ) (digits : List ℕ) → 12 < length digits → number_to most digits ≡ None
number_to_long most digits long = rw (number_long digits long) refl

named_long : (word : List ℕ) (most : ℕ) (make : ℕ → Step) (line : List ℕ) → length word + 12 < length line → named word most make line ≡ None
named_long word most make line long =
    let digits = drop (length word) line in
    let none : number_to most digits ≡ None = number_to_long most digits (omega (arith, long, length-drop (length word) line)) in
    elim (starts_with nat_eq line word) as (λ v. ((if v then Some digits else None) >>= λ rest. option_map make (number_to most rest)) ≡ None)
    [ true ↦ rw none refl | false ↦ refl ]

not_next : (line : List ℕ) → 20 < length line → bytes_eq line (codes "next") ≡ false
not_next line long = elim (cases_Bool (bytes_eq line (codes "next"))) [
  | inl same ↦ absurd (omega (arith, long, ap length ((slice_eq-Decides Decides-eqb line (codes "next") _ refl).0 same)))
  | inr other ↦ other
]

long_content : (line : List ℕ) → 20 < length line → step_of line ≡ None
long_content line long = rw (
  not_next line long,
  named_long (codes "expunge ") last_uid Expunge line (omega (arith, long)),
  named_long (codes "seen ") last_uid Seen line (omega (arith, long)),
  named_long (codes "at ") last_moment At line (omega (arith, long)),
) refl

ending_short : (raw : List ℕ) → ending_len raw ≤ 2
ending_short raw = elim (ends_with nat_eq raw (codes "\r\n")) as (λ v. (if v then 2 else if ends_with nat_eq raw (codes "\n") then 1 else 0) ≤ 2) [
  | true ↦ omega arith
  | false ↦ elim (ends_with nat_eq raw (codes "\n")) as (λ v. (if v then 1 else 0) ≤ 2) [ true ↦ omega arith | false ↦ omega arith ]
]

pub long_no_step : (raw : List ℕ) → 22 < length raw → step_of (content raw) ≡ None
long_no_step raw long = long_content (content raw) (omega (arith, long, ending_short raw, length-take (length raw - ending_len raw) raw))

-- so the first 23 bytes tell which step a line is, if it is one
pub first_bytes_tell : (raw : List ℕ) → step_of (content (take 23 raw)) ≡ step_of (content raw)
first_bytes_tell raw = elim (cases_Bool (nat_le (length raw) 22)) [
  | inl short ↦ ap (λ (l : List ℕ). step_of (content l)) (take_all 23 raw (grind (arith, nat_tests)))
  | inr longer ↦ (
      let long : 22 < length raw = grind (arith, nat_tests) in
      long_no_step (take 23 raw) (omega (arith, long, length-take 23 raw)) ∙ sym (long_no_step raw long))
]
