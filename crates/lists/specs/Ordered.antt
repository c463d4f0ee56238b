-- Values in order, as contracts see them.
use Rattle.std.specs.Prelude.{ℕ, List, [], refl}
use Rattle.std.specs.Coded.{Coded, code_by, coded×, coded_list, coded_ℕ}
use Rattle.std.specs.Option.{option_map_or}
use Rattle.std.specs.Map.{lookup}
use Rattle.std.specs.Str.{bytes_eq}

-- values in order, and how many more can be inserted without memory
pub record Ordered (T : Type 0) : Type 0 where
  pub values : List T
  pub spare : ℕ

-- how a proof tells two of them apart, where it can tell two values apart
abbrev pub ordered_code : {T : Type 0} → Coded T → Coded (Ordered T)
ordered_code {T} code =
    code_by (List T × ℕ) (coded× (coded_list code) coded_ℕ) (λ list. (list.values, list.spare))
    (λ p. record { values = p.0; spare = p.1 }) (λ _. refl)

-- what is kept under an id
abbrev pub values_at : {T : Type 0} → List (List ℕ × Ordered T) → List ℕ → List T
values_at lists id = option_map_or (λ list. list.values) (lookup (bytes_eq id) lists) []

-- how many more values can be inserted under it without memory
abbrev pub spare_at : {T : Type 0} → List (List ℕ × Ordered T) → List ℕ → ℕ
spare_at lists id = option_map_or (λ list. list.spare) (lookup (bytes_eq id) lists) 0
