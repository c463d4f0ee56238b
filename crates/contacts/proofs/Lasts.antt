-- The last element of a list.
use Rattle.std.proofs.Common.{◌≡◌, refl, ap, ◌∙◌, ◌-◌, Bor, false, is_some, Option, Some, None, List, [], ◌∷◌, length, arith}
use Rattle.std.specs.Prelude.{slice_get, option_map}
use Rattle.std.specs.Option.{option_or, option_copied}
use Rattle.mailbox_model.specs.Lists.{Bytes, last_of}
use Rattle.card_type.specs.declared.spot.Spot.{Spot}
use Rattle.contacts.specs.Kept.{last_name}

last_after : {X : Type 0} (x y : X) (ys : List X) → option_or (slice_get (y ∷ ys) (length ys)) (Some x) ≡ slice_get (y ∷ ys) (length ys)
last_after x y [] = refl
last_after x y (z ∷ zs) = last_after x z zs

last_there : {X : Type 0} (x : X) (xs : List X) → last_of (x ∷ xs) ≡ slice_get (x ∷ xs) (length xs)
last_there x [] = refl
last_there x (y ∷ ys) = ap (λ o. option_or o (Some x)) (last_there y ys) ∙ last_after x y ys

pub last_is : {X : Type 0} (xs : List X) → last_of xs ≡ slice_get xs (length xs - 1)
last_is [] = refl
last_is (x ∷ xs) = last_there x xs ∙ ap (slice_get (x ∷ xs)) (omega arith)

some_last : {X : Type 0} (x : X) (o : Option X) → option_or o (Some x) ≡ None → ⊥
some_last x None h = cc
some_last x (Some y) h = cc

pub no_names : (names : List (Spot × Bytes)) → last_name names ≡ None → names ≡ []
no_names [] h = refl
no_names (e ∷ es) h = absurd (some_last e (last_of es) (none_mapped (last_of (e ∷ es)) h))
  where
    none_mapped : (o : Option (Spot × Bytes)) → option_map (λ g. g.1) o ≡ None → o ≡ None
    none_mapped None h = refl
    none_mapped (Some g) h = cc

-- a reference is to none where there is no reference
pub none_copied : {X : Type 0} (o : Option (Bor X)) → is_some o ≡ false → option_copied o ≡ None
none_copied None h = refl
none_copied (Some x) h = cc
