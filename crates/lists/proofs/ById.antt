-- The values of an id, where a map by id is read or changed.
use Rattle.std.proofs.Common.{◌≡◌, refl, sym, ap, ◌∙◌, ℕ, Bool, true, false, cond, Option, Some, List, [], ◌∷◌}
use Rattle.std.specs.Option.{option_map_or}
use Rattle.std.specs.Ordering.{nat_cmp}
use Rattle.std.specs.Cmp.Lexicographic.{slice_cmp, bytes_decides}
use Rattle.std.specs.Map.{lookup}
use Rattle.std.specs.BTreeMap.{is_at}
use Rattle.std.specs.Str.{bytes_eq}
use Rattle.std.proofs.lemmas.Map.Text.{is_eq-slice_cmp}
use Rattle.lists.specs.Ordered.{Ordered, values_at, spare_at}

abbrev Lists : Type 0 → Type 0
Lists T = List (List ℕ × Ordered T)

abbrev at : List ℕ → List ℕ → Bool
at id = is_at (slice_cmp nat_cmp id)

-- the order of ids tells alike those that are equal
looked : {V : Type 0} (es : List (List ℕ × V)) (id : List ℕ) → lookup (at id) es ≡ lookup (bytes_eq id) es
looked [] id = refl
looked (e ∷ es) id = λ i. cond (is_eq-slice_cmp id e.0 i) (Some e.1) (looked es id i)

-- no list has no values
abbrev pub values_of : {T : Type 0} → Option (Ordered T) → List T
values_of list = option_map_or (λ list. list.values) list []

abbrev pub spare_of : {T : Type 0} → Option (Ordered T) → ℕ
spare_of list = option_map_or (λ list. list.spare) list 0

pub values_are : {T : Type 0} (es : Lists T) (id : List ℕ) → values_at es id ≡ values_of (lookup (at id) es)
values_are es id = ap values_of (sym (looked es id))

pub spare_is : {T : Type 0} (es : Lists T) (id : List ℕ) → spare_at es id ≡ spare_of (lookup (at id) es)
spare_is es id = ap spare_of (sym (looked es id))

-- another list, or none, for one id
module _ {T : Type 0} (es fs : Lists T) (id : List ℕ) (list : Option (Ordered T))
    (updates : (q : List ℕ) → lookup (at q) fs ≡ cond (at id q) list (lookup (at q) es)) where
  changed : (q : List ℕ) → lookup (bytes_eq q) fs ≡ cond (bytes_eq id q) list (lookup (bytes_eq q) es)
  changed q = sym (looked fs q) ∙ updates q ∙ (λ i. cond (is_eq-slice_cmp id q i) list (looked es q i))

  here : lookup (bytes_eq id) fs ≡ list
  here = changed id ∙ ap (λ b. cond b list (lookup (bytes_eq id) es)) ((bytes_decides id id).1 refl)

  pub values_here : values_at fs id ≡ values_of list
  values_here = ap values_of here

  pub spare_here : spare_at fs id ≡ spare_of list
  spare_here = ap spare_of here

  pub values_elsewhere : (q : List ℕ) → bytes_eq id q ≡ false → values_at fs q ≡ values_at es q
  values_elsewhere q other = ap values_of (changed q ∙ ap (λ b. cond b list (lookup (bytes_eq q) es)) other)

  pub values_same : values_of list ≡ values_at es id → (q : List ℕ) → values_at fs q ≡ values_at es q
  values_same same q =
      elim (bytes_eq id q) as (λ b. bytes_eq id q ≡ b → values_at fs q ≡ values_at es q) [
        | true ↦ λ e. let equal = (bytes_decides id q).0 e in rw (← equal) (values_here ∙ same)
        | false ↦ λ e. values_elsewhere q e
      ] refl
