-- The steps of a loop over a list.
use Rattle.std.proofs.Common.{◌≡◌, refl, sym, ap, ◌∙◌, subst, ℕ, ◌+◌, ◌<◌, ◌≤◌, Option, Some, None, List, [], ◌∷◌, ◌++◌, length, map, take, get_or}
use Rattle.std.specs.Prelude.{filter_map, sum_by}
use Rattle.std.specs.List.{AllByRecursion, cons_option}
use Rattle.std.specs.Option.{option_to_list}
use Rattle.std.proofs.lemmas.List.{map-append, take_more}
use Rattle.std.proofs.lemmas.List.Elements.{All-from_recursion, All-get_or, filter_map-append}
use Rattle.std.proofs.lemmas.List.Sums.{sum_by_more, sum_by_more_le}

-- x is the element at an index
module _ {X : Type 0} (xs : List X) (i : ℕ) (x : X) (within : i < length xs) (at : x ≡ get_or xs i x) where
  taken : take (i + 1) xs ≡ take i xs ++ x ∷ []
  taken = take_more xs i x within ∙ ap (λ y. take i xs ++ y ∷ []) (sym at)

  pub holds_at : (P : X → Type 0) → AllByRecursion P xs → P x
  holds_at P a = subst P (sym at) (All-get_or P xs i x within (All-from_recursion P xs a))

  pub filter_map_next : {Y : Type 0} (f : X → Option Y) (ys : List Y) → ys ≡ filter_map f (take i xs) → (o : Option Y) → o ≡ f x
      → ys ++ option_to_list o ≡ filter_map f (take (i + 1) xs)
  filter_map_next {Y} f ys h o k =
      (λ j. h j ++ option_to_list (k j)) ∙ ap (λ more. filter_map f (take i xs) ++ more) (one (f x))
      ∙ sym (ap (filter_map f) taken ∙ filter_map-append f (take i xs) (x ∷ []))
    where
      one : (o : Option Y) → option_to_list o ≡ cons_option o []
      one None = refl
      one (Some y) = refl

  pub map_next : {Y : Type 0} (f : X → Y) (ys : List Y) → ys ≡ map f (take i xs) → (y : Y) → y ≡ f x → ys ++ y ∷ [] ≡ map f (take (i + 1) xs)
  map_next f ys h y k = (λ j. h j ++ k j ∷ []) ∙ sym (ap (map f) taken ∙ map-append f (take i xs) (x ∷ []))

  pub sum_next : (f : X → ℕ) → sum_by f (take (i + 1) xs) ≡ sum_by f (take i xs) + f x
  sum_next f = sum_by_more f xs i x within ∙ ap (λ y. sum_by f (take i xs) + f y) (sym at)

  pub sum_within : (f : X → ℕ) → sum_by f (take i xs) + f x ≤ sum_by f xs
  sum_within f = subst (λ y. sum_by f (take i xs) + f y ≤ sum_by f xs) (sym at) (sum_by_more_le f xs i x within)
