-- Of elements that are alike the last one counts: what is said of those that count, after one element more.
use Rattle.std.proofs.Common.{◌≡◌, refl, sym, ap, ◌∙◌, Bool, true, false, not, cond, List, [], ◌∷◌, ◌++◌, map, append-nil}
use Rattle.std.specs.Prelude.{if◌then◌else◌, filter, reverse}
use Rattle.std.proofs.lemmas.List.{map-append, reverse-append}
use Rattle.std.proofs.lemmas.List.Elements.{filter-append}
use Rattle.lists.specs.Distinct.{firsts, lasts}

module _ {X : Type 0} where
  reverse-cons : (x : X) (xs : List X) → reverse (x ∷ xs) ≡ reverse xs ++ x ∷ []
  reverse-cons x xs = reverse-append (x ∷ []) xs

  reverse-push : (xs : List X) (x : X) → reverse (xs ++ x ∷ []) ≡ x ∷ reverse xs
  reverse-push xs x = reverse-append xs (x ∷ [])

  filter-reverse : (p : X → Bool) (xs : List X) → reverse (filter p xs) ≡ filter p (reverse xs)
  filter-reverse p [] = refl
  filter-reverse p (x ∷ xs) =
      by (p x) ∙ ap (λ ys. ys ++ cond (p x) (x ∷ []) []) (filter-reverse p xs) ∙ sym (filter-append p (reverse xs) (x ∷ [])) ∙ ap (filter p) (sym (reverse-cons x xs))
    where
      by : (b : Bool) → reverse (cond b (x ∷ filter p xs) (filter p xs)) ≡ reverse (filter p xs) ++ cond b (x ∷ []) []
      by true = reverse-cons x (filter p xs)
      by false = sym (append-nil (reverse (filter p xs)))

  filters-swap : (p q : X → Bool) (xs : List X) → filter p (filter q xs) ≡ filter q (filter p xs)
  filters-swap p q [] = refl
  filters-swap p q (x ∷ xs) = by (filters-swap p q xs) (p x) (q x) refl refl
    where
      by : filter p (filter q xs) ≡ filter q (filter p xs) → (b c : Bool) → p x ≡ b → q x ≡ c
          → filter p (cond c (x ∷ filter q xs) (filter q xs)) ≡ filter q (cond b (x ∷ filter p xs) (filter p xs))
      by rest true true h k = ap (λ r. cond r (x ∷ filter p (filter q xs)) (filter p (filter q xs))) h ∙ ap (λ ys. x ∷ ys) rest
          ∙ sym (ap (λ r. cond r (x ∷ filter q (filter p xs)) (filter q (filter p xs))) k)
      by rest true false h k = rest ∙ sym (ap (λ r. cond r (x ∷ filter q (filter p xs)) (filter q (filter p xs))) k)
      by rest false true h k = ap (λ r. cond r (x ∷ filter p (filter q xs)) (filter p (filter q xs))) h ∙ rest
      by rest false false h k = rest

  -- the others that are alike go, and the new one comes to the end
  lasts-push : (alike : X → X → Bool) (xs : List X) (x : X) → lasts alike (xs ++ x ∷ []) ≡ filter (λ y. not (alike x y)) (lasts alike xs) ++ x ∷ []
  lasts-push alike xs x =
      ap (λ ys. reverse (firsts alike ys)) (reverse-push xs x)
      ∙ reverse-cons x (filter (λ y. not (alike x y)) (firsts alike (reverse xs)))
      ∙ ap (λ ys. ys ++ x ∷ []) (filter-reverse (λ y. not (alike x y)) (firsts alike (reverse xs)))

  -- ---- what is said of those that have something to say

  module _ {Y : Type 0} (say : X → Y) where
    filter-said : (p : X → Bool) (q : Y → Bool) → ((z : X) → p z ≡ q (say z)) → (xs : List X) → map say (filter p xs) ≡ filter q (map say xs)
    filter-said p q same [] = refl
    filter-said p q same (x ∷ xs) =
        by (p x) ∙ ap (λ b. cond b (say x ∷ map say (filter p xs)) (map say (filter p xs))) (same x)
        ∙ ap (λ ys. cond (q (say x)) (say x ∷ ys) ys) (filter-said p q same xs)
      where
        by : (b : Bool) → map say (cond b (x ∷ filter p xs) (filter p xs)) ≡ cond b (say x ∷ map say (filter p xs)) (map say (filter p xs))
        by true = refl
        by false = refl

    -- what is alike goes, and the new one comes to the end where it has something to say
    pub lasts_said-push : (alike : X → X → Bool) (has : X → Bool) (told : Y → Bool) (xs : List X) (x : X) → ((z : X) → alike x z ≡ told (say z))
        → map say (filter has (lasts alike (xs ++ x ∷ [])))
        ≡ filter (λ y. not (told y)) (map say (filter has (lasts alike xs))) ++ (if has x then say x ∷ [] else [])
    lasts_said-push alike has told xs x same =
        let apart = λ (y : X). not (alike x y) in
        let others = lasts alike xs in
        ap (λ ys. map say (filter has ys)) (lasts-push alike xs x)
        ∙ ap (map say) (filter-append has (filter apart others) (x ∷ []))
        ∙ map-append say (filter has (filter apart others)) (cond (has x) (x ∷ []) [])
        ∙ ap (λ ys. ys ++ map say (cond (has x) (x ∷ []) []))
        (ap (map say) (filters-swap has apart others) ∙ filter-said apart (λ y. not (told y)) (λ z. ap not (same z)) (filter has others))
        ∙ ap (λ ys. filter (λ y. not (told y)) (map say (filter has others)) ++ ys) (by (has x))
      where
        by : (b : Bool) → map say (cond b (x ∷ []) []) ≡ cond b (say x ∷ []) []
        by true = refl
        by false = refl
