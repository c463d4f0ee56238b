-- Maps of lists, before and after what is done with them.
use Rattle.std.proofs.Common.{◌≡◌, refl, sym, ap, ◌∙◌, ℕ, ◌+◌, Bool, true, false, not, cond, Option, Some, None, List, [], ◌∷◌, ◌++◌, map}
use Rattle.std.specs.Prelude.{filter, filter_map, flat_map, find, option_map, reverse}
use Rattle.std.specs.List.{cons_option, enumerate_from}
use Rattle.std.specs.Option.{option_or}
use Rattle.std.proofs.lemmas.List.{map-append, reverse-append}
use Rattle.lists.specs.Distinct.{firsts, lasts}
use Rattle.mailbox_model.specs.Lists.{last_of}

module _ {X Y : Type 0} (f : X → Y) where
  pub map_twice : {Z : Type 0} (g : Y → Z) (xs : List X) → map g (map f xs) ≡ map (λ x. g (f x)) xs
  map_twice g [] = refl
  map_twice g (x ∷ xs) = ap (λ ys. g (f x) ∷ ys) (map_twice g xs)

  pub filter-map : (p : Y → Bool) (q : X → Bool) → ((x : X) → p (f x) ≡ q x) → (xs : List X) → filter p (map f xs) ≡ map f (filter q xs)
  filter-map p q h [] = refl
  filter-map p q h (x ∷ xs) =
      rw (h x) (elim (q x) as (λ b. cond b (f x ∷ filter p (map f xs)) (filter p (map f xs)) ≡ map f (cond b (x ∷ filter q xs) (filter q xs))) [
        | true ↦ ap (λ ys. f x ∷ ys) (filter-map p q h xs)
        | false ↦ filter-map p q h xs
      ])

  pub find-map : (p : Y → Bool) (q : X → Bool) → ((x : X) → p (f x) ≡ q x) → (xs : List X) → find p (map f xs) ≡ option_map f (find q xs)
  find-map p q h [] = refl
  find-map p q h (x ∷ xs) =
      rw (h x) (elim (q x) as (λ b. cond b (Some (f x)) (find p (map f xs)) ≡ option_map f (cond b (Some x) (find q xs))) [
        | true ↦ refl
        | false ↦ find-map p q h xs
      ])

  -- f before and after what picks elements
  pub filter_map-map : {A B : Type 0} (g : A → B) (a : X → Option A) (b : Y → Option B) → ((x : X) → b (f x) ≡ option_map g (a x))
      → (xs : List X) → filter_map b (map f xs) ≡ map g (filter_map a xs)
  filter_map-map g a b h [] = refl
  filter_map-map {A} g a b h (x ∷ xs) =
      ap (λ o. cons_option o (filter_map b (map f xs))) (h x) ∙ by (a x) (filter_map-map g a b h xs)
    where
      by : (o : Option A) → filter_map b (map f xs) ≡ map g (filter_map a xs)
          → cons_option (option_map g o) (filter_map b (map f xs)) ≡ map g (cons_option o (filter_map a xs))
      by None k = k
      by (Some v) k = ap (λ ws. g v ∷ ws) k

  pub firsts-map : (same : Y → Y → Bool) (other : X → X → Bool) → ((x y : X) → same (f x) (f y) ≡ other x y) → (xs : List X)
      → firsts same (map f xs) ≡ map f (firsts other xs)
  firsts-map same other h [] = refl
  firsts-map same other h (x ∷ xs) =
      ap (λ ys. f x ∷ filter (λ y. not (same (f x) y)) ys) (firsts-map same other h xs)
      ∙ ap (λ ys. f x ∷ ys) (filter-map (λ y. not (same (f x) y)) (λ y. not (other x y)) (λ y. ap not (h x y)) (firsts other xs))

  reverse-map : (xs : List X) → reverse (map f xs) ≡ map f (reverse xs)
  reverse-map [] = refl
  reverse-map (x ∷ xs) =
      reverse-append (f x ∷ []) (map f xs) ∙ ap (λ ys. ys ++ f x ∷ []) (reverse-map xs)
      ∙ sym (map-append f (reverse xs) (x ∷ [])) ∙ ap (map f) (sym (reverse-append (x ∷ []) xs))

  pub lasts-map : (same : Y → Y → Bool) (other : X → X → Bool) → ((x y : X) → same (f x) (f y) ≡ other x y) → (xs : List X)
      → lasts same (map f xs) ≡ map f (lasts other xs)
  lasts-map same other h xs =
      ap (λ ys. reverse (firsts same ys)) (reverse-map xs)
      ∙ ap reverse (firsts-map same other h (reverse xs))
      ∙ reverse-map (firsts other (reverse xs))

  pub last_of-map : (xs : List X) → last_of (map f xs) ≡ option_map f (last_of xs)
  last_of-map [] = refl
  last_of-map (x ∷ xs) = ap (λ o. option_or o (Some (f x))) (last_of-map xs) ∙ by (last_of xs)
    where
      by : (o : Option X) → option_or (option_map f o) (Some (f x)) ≡ option_map f (option_or o (Some x))
      by None = refl
      by (Some y) = refl

  pub enumerate_from-map : (n : ℕ) (xs : List X) → enumerate_from n (map f xs) ≡ map (λ p. (p.0, f p.1)) (enumerate_from n xs)
  enumerate_from-map n [] = refl
  enumerate_from-map n (x ∷ xs) = ap (λ ys. (n, f x) ∷ ys) (enumerate_from-map (n + 1) xs)

-- a map of all that a list gives
pub map-flat_map : {X Y Z : Type 0} (g : Y → Z) (f : X → List Y) (xs : List X) → map g (flat_map f xs) ≡ flat_map (λ x. map g (f x)) xs
map-flat_map g f [] = refl
map-flat_map g f (x ∷ xs) = map-append g (f x) (flat_map f xs) ∙ ap (λ ys. map g (f x) ++ ys) (map-flat_map g f xs)

pub flat_map_same : {X Y : Type 0} (f g : X → List Y) → ((x : X) → f x ≡ g x) → (xs : List X) → flat_map f xs ≡ flat_map g xs
flat_map_same f g h [] = refl
flat_map_same f g h (x ∷ xs) = λ i. h x i ++ flat_map_same f g h xs i
