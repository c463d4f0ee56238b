-- What a map by id has at an id, where it is read or changed.
use Rattle.std.proofs.Common.{◌≡◌, refl, sym, ap, ◌∙◌, Bool, true, false, cond, Option, Some, List, [], ◌∷◌}
use Rattle.std.specs.Ordering.{nat_cmp}
use Rattle.std.specs.Option.{unwrap_or}
use Rattle.std.specs.Cmp.Lexicographic.{slice_cmp, bytes_decides}
use Rattle.std.specs.Map.{lookup}
use Rattle.std.specs.BTreeMap.{is_at}
use Rattle.std.specs.Str.{bytes_eq}
use Rattle.std.proofs.lemmas.Map.Text.{is_eq-slice_cmp}
use Rattle.card_type.specs.declared.spot.Spot.{Spot}
use Rattle.mailbox_model.specs.Lists.{Bytes}

abbrev at : Bytes → Bytes → Bool
at id = is_at (slice_cmp nat_cmp id)

-- no mail names an id that is not there
abbrev pub spots_of : Option (List Spot) → List Spot
spots_of spots = unwrap_or spots []

-- the order of ids tells alike those that are equal
pub looked : {V : Type 0} (es : List (Bytes × V)) (id : Bytes) → lookup (at id) es ≡ lookup (bytes_eq id) es
looked [] id = refl
looked (e ∷ es) id = λ i. cond (is_eq-slice_cmp id e.0 i) (Some e.1) (looked es id i)

-- another value, or none, for one id
module _ {V : Type 0} (es fs : List (Bytes × V)) (id : Bytes) (value : Option V)
    (updates : (q : Bytes) → lookup (at q) fs ≡ cond (at id q) value (lookup (at q) es)) where
  changed : (q : Bytes) → lookup (bytes_eq q) fs ≡ cond (bytes_eq id q) value (lookup (bytes_eq q) es)
  changed q = sym (looked fs q) ∙ updates q ∙ (λ i. cond (is_eq-slice_cmp id q i) value (looked es q i))

  pub here : lookup (bytes_eq id) fs ≡ value
  here = changed id ∙ ap (λ b. cond b value (lookup (bytes_eq id) es)) ((bytes_decides id id).1 refl)

  pub elsewhere : (q : Bytes) → bytes_eq id q ≡ false → lookup (bytes_eq q) fs ≡ lookup (bytes_eq q) es
  elsewhere q other = changed q ∙ ap (λ b. cond b value (lookup (bytes_eq q) es)) other

  -- what is read of the maps is the same where it is the same of the values
  pub unchanged : {W : Type 0} (f : Option V → W) → f value ≡ f (lookup (bytes_eq id) es) → (q : Bytes)
      → f (lookup (bytes_eq q) fs) ≡ f (lookup (bytes_eq q) es)
  unchanged f same q =
      elim (bytes_eq id q) as (λ b. bytes_eq id q ≡ b → f (lookup (bytes_eq q) fs) ≡ f (lookup (bytes_eq q) es)) [
        | true ↦ λ e. let equal = (bytes_decides id q).0 e in rw (← equal) (ap f here ∙ same)
        | false ↦ λ e. ap f (elsewhere q e)
      ] refl
