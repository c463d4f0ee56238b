-- Filters of lists, and what none of a list passes.
use Rattle.std.proofs.Common.{◌≡◌, refl, sym, ap, ◌∙◌, Bool, true, false, ◌||◌, ◌&&◌, cond, List, [], ◌∷◌, map}
use Rattle.std.specs.Prelude.{filter}
use Rattle.std.specs.List.{list_any, AllByRecursion}
use Rattle.std.specs.declared.cmp.Ordering.{Ordering}
use Rattle.std.proofs.lemmas.Bool.{or_parts}
use Rattle.lists.specs.Sorted.{insert_by}
use Rattle.lists.proofs.Inserts.{list_any-insert_by}

-- ---- filters

-- two tests, one after the other
pub filter_both : {X : Type 0} (p q : X → Bool) (xs : List X) → filter p (filter q xs) ≡ filter (λ x. q x && p x) xs
filter_both p q [] = refl
filter_both p q (x ∷ xs) =
    elim (q x) as (λ b. filter p (cond b (x ∷ filter q xs) (filter q xs)) ≡ cond (b && p x) (x ∷ filter (λ x. q x && p x) xs) (filter (λ x. q x && p x) xs)) [
      | true ↦ ap (λ ys. cond (p x) (x ∷ ys) ys) (filter_both p q xs)
      | false ↦ filter_both p q xs
    ]

pub filter-map : {X Y : Type 0} (p : Y → Bool) (f : X → Y) (xs : List X) → filter p (map f xs) ≡ map f (filter (λ x. p (f x)) xs)
filter-map p f [] = refl
filter-map p f (x ∷ xs) =
    elim (p (f x)) as (λ b. cond b (f x ∷ filter p (map f xs)) (filter p (map f xs)) ≡ map f (cond b (x ∷ filter (λ x. p (f x)) xs) (filter (λ x. p (f x)) xs))) [
      | true ↦ ap (λ ys. f x ∷ ys) (filter-map p f xs)
      | false ↦ filter-map p f xs
    ]

-- each of a filtered list passes
pub All-passing : {X : Type 0} (P : X → Type 0) (p : X → Bool) (xs : List X) → ((x : X) → p x ≡ true → P x)
    → AllByRecursion P (filter p xs)
All-passing P p [] h = tt
All-passing {X} P p (x ∷ xs) h =
    elim (p x) as (λ b. p x ≡ b → AllByRecursion P (cond b (x ∷ filter p xs) (filter p xs))) [
      | true ↦ λ e. (h x e, All-passing P p xs h)
      | false ↦ λ e. All-passing P p xs h
    ] refl

-- ---- none of these

pub each_not : {X : Type 0} (p : X → Bool) (xs : List X) → list_any p xs ≡ false → AllByRecursion (λ x. p x ≡ false) xs
each_not p [] h = tt
each_not p (x ∷ xs) h = let parts = or_parts (p x) (list_any p xs) h in (parts.0, each_not p xs parts.1)

pub any_passing : {X : Type 0} (p q : X → Bool) (xs : List X) → list_any p (filter q xs) ≡ list_any (λ x. q x && p x) xs
any_passing p q [] = refl
any_passing p q (x ∷ xs) =
    elim (q x) as (λ b. list_any p (cond b (x ∷ filter q xs) (filter q xs)) ≡ ((b && p x) || list_any (λ x. q x && p x) xs)) [
      | true ↦ ap (λ b. p x || b) (any_passing p q xs)
      | false ↦ any_passing p q xs
    ]

-- where none passes of those in which x is, x does not
pub not_inserted : {X : Type 0} (cmp : X → X → Ordering) (p : X → Bool) (x : X) (ys zs : List X) → zs ≡ insert_by cmp x ys
    → list_any p zs ≡ false → p x ≡ false
not_inserted cmp p x ys zs is h =
    (or_parts (p x) (list_any p ys) (sym (ap (list_any p) is ∙ list_any-insert_by cmp p x ys) ∙ h)).0
