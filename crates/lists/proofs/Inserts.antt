-- What is put into a list, taken out of it and found in it.
use Rattle.std.proofs.Common.{◌≡◌, refl, sym, ap, ◌∙◌, subst, Bool, true, false, not, ◌||◌, ◌&&◌, cond, Some, None, is_some, List, [], ◌∷◌}
use Rattle.std.specs.Prelude.{if◌then◌else◌}
use Rattle.std.specs.List.{list_any, filter, find, AllByRecursion, IsDistinct}
use Rattle.std.specs.declared.cmp.Ordering.{Ordering}
use Rattle.std.specs.Ordering.{is_lt}
use Rattle.std.proofs.lemmas.Bool.{both_ways}
use Rattle.lists.specs.Distinct.{firsts}
use Rattle.lists.specs.Sorted.{insert_by}
use Rattle.lists.proofs.Rising.{Above, Rising, Above-through, insert_by-above, IsAlike, IsBelow, is_preceded}

-- two tests that imply each other agree
pub agree : (b c : Bool) → (b ≡ true → c ≡ true) → (c ≡ true → b ≡ true) → b ≡ c
agree true c f g = sym (f refl)
agree false true f g = g refl
agree false false f g = refl

-- ---- none passes

abbrev pub None_of : {X : Type 0} → (X → Bool) → List X → Type 0
None_of p xs = AllByRecursion (λ x. p x ≡ false) xs

pub none_found : {X : Type 0} (p : X → Bool) (xs : List X) → None_of p xs → find p xs ≡ None
none_found p [] n = refl
none_found p (x ∷ xs) n = rw n.0 (none_found p xs n.1)

pub none_from_found : {X : Type 0} (p : X → Bool) (xs : List X) → find p xs ≡ None → None_of p xs
none_from_found p [] h = tt
none_from_found p (x ∷ xs) h =
    elim (p x) as (λ b. p x ≡ b → cond b (Some x) (find p xs) ≡ None → (p x ≡ false) × None_of p xs) [
      | true ↦ λ e k. cc
      | false ↦ λ e k. (e, none_from_found p xs k)
    ] refl h

pub none_filtered : {X : Type 0} (p : X → Bool) (xs : List X) → None_of p xs → filter (λ x. not (p x)) xs ≡ xs
none_filtered p [] n = refl
none_filtered p (x ∷ xs) n = rw n.0 (ap (λ ys. x ∷ ys) (none_filtered p xs n.1))

pub filter_none : {X : Type 0} (p : X → Bool) (xs : List X) → None_of p (filter (λ x. not (p x)) xs)
filter_none p [] = tt
filter_none p (x ∷ xs) =
    elim (p x) as (λ b. p x ≡ b → None_of p (cond (not b) (x ∷ filter (λ y. not (p y)) xs) (filter (λ y. not (p y)) xs))) [
      | true ↦ λ e. filter_none p xs
      | false ↦ λ e. (e, filter_none p xs)
    ] refl

pub All-filter : {X : Type 0} (P : X → Type 0) (p : X → Bool) (xs : List X) → AllByRecursion P xs
    → AllByRecursion P (filter p xs)
All-filter P p [] a = tt
All-filter P p (x ∷ xs) a = elim (p x) as (λ b. AllByRecursion P (cond b (x ∷ filter p xs) (filter p xs))) [ true ↦ (a.0, All-filter P p xs a.1) | false ↦ All-filter P p xs a.1 ]

pub All-firsts : {X : Type 0} (P : X → Type 0) (same : X → X → Bool) (xs : List X) → AllByRecursion P xs
    → AllByRecursion P (firsts same xs)
All-firsts P same [] a = tt
All-firsts P same (x ∷ xs) a = (a.0, All-filter P (λ y. not (same x y)) (firsts same xs) (All-firsts P same xs a.1))

-- ---- what is found passes, and is one of the list

pub found_all : {X : Type 0} (P : X → Type 0) (p : X → Bool) (xs : List X) (x : X) → AllByRecursion P xs → find p xs ≡ Some x
    → P x
found_all P p [] x a h = cc
found_all {X} P p (y ∷ ys) x a h =
    elim (p y) as (λ b. cond b (Some y) (find p ys) ≡ Some x → P x) [
      | true ↦ λ k. let same : y ≡ x = cc in subst P same a.0
      | false ↦ λ k. found_all P p ys x a.1 k
    ] h

pub found_passes : {X : Type 0} (p : X → Bool) (xs : List X) (x : X) → find p xs ≡ Some x → p x ≡ true
found_passes p [] x h = cc
found_passes {X} p (y ∷ ys) x h =
    elim (p y) as (λ b. p y ≡ b → cond b (Some y) (find p ys) ≡ Some x → p x ≡ true) [
      | true ↦ λ e k. let same : y ≡ x = cc in subst (λ z. p z ≡ true) same e
      | false ↦ λ e k. found_passes p ys x k
    ] refl h

-- a filter that keeps what is sought
pub find-filter : {X : Type 0} (p q : X → Bool) → ((x : X) → p x ≡ true → q x ≡ true) → (xs : List X)
    → find p (filter q xs) ≡ find p xs
find-filter p q h [] = refl
find-filter {X} p q h (x ∷ xs) =
    elim (p x) as (λ b. p x ≡ b → find p (cond (q x) (x ∷ filter q xs) (filter q xs)) ≡ cond b (Some x) (find p xs)) [
      | true ↦ λ e. rw (h x e) (rw e refl)
      | false ↦ λ e. elim (q x) as (λ c. find p (cond c (x ∷ filter q xs) (filter q xs)) ≡ find p xs) [ true ↦ rw e (find-filter p q h xs) | false ↦ find-filter p q h xs ]
    ] refl

-- the first of those that are alike is found
pub find-firsts : {X : Type 0} (same : X → X → Bool) (p : X → Bool) → ((x y : X) → same x y ≡ true → p x ≡ p y)
    → (xs : List X) → find p (firsts same xs) ≡ find p xs
find-firsts same p h [] = refl
find-firsts {X} same p h (x ∷ xs) =
    elim (p x) as (λ b. p x ≡ b → cond b (Some x) (find p (filter (λ y. not (same x y)) (firsts same xs))) ≡ cond b (Some x) (find p xs)) [
      | true ↦ λ e. refl
      | false ↦ λ e. find-filter p (λ y. not (same x y)) (unlike_x e) (firsts same xs) ∙ find-firsts same p h xs
    ] refl
  where
    unlike_x : p x ≡ false → (y : X) → p y ≡ true → not (same x y) ≡ true
    unlike_x e y k =
        elim (same x y) as (λ b. same x y ≡ b → not b ≡ true) [
          | true ↦ λ s. absurd (both_ways (p x) e (h x y s ∙ k))
          | false ↦ λ s. refl
        ] refl

pub list_any-found : {X : Type 0} (p : X → Bool) (xs : List X) → list_any p xs ≡ is_some (find p xs)
list_any-found p [] = refl
list_any-found p (x ∷ xs) = elim (p x) as (λ b. (b || list_any p xs) ≡ is_some (cond b (Some x) (find p xs))) [ true ↦ refl | false ↦ list_any-found p xs ]

-- ---- where one is put in

module _ {X : Type 0} (cmp : X → X → Ordering) where
  pub All-insert_by : (P : X → Type 0) (x : X) (ys : List X) → P x → AllByRecursion P ys → AllByRecursion P (insert_by cmp x ys)
  All-insert_by P x [] h a = (h, tt)
  All-insert_by P x (y ∷ ys) h a = elim (is_lt (cmp x y)) as (λ b. AllByRecursion P (if b then x ∷ y ∷ ys else y ∷ insert_by cmp x ys)) [ true ↦ (h, a) | false ↦ (a.0, All-insert_by P x ys h a.1) ]

  pub IsDistinct-insert_by : (same : X → X → Bool) → ((x y : X) → same x y ≡ same y x) → (x : X) (ys : List X)
      → None_of (same x) ys → IsDistinct same ys → IsDistinct same (insert_by cmp x ys)
  unfolding IsDistinct
  IsDistinct-insert_by same turn x [] n d = (tt, tt)
  IsDistinct-insert_by same turn x (y ∷ ys) n d =
      elim (is_lt (cmp x y)) as (λ b. IsDistinct same (if b then x ∷ y ∷ ys else y ∷ insert_by cmp x ys)) [
        | true ↦ (n, d)
        | false ↦ (All-insert_by (λ z. same y z ≡ false) x ys (turn y x ∙ n.0) d.0, IsDistinct-insert_by same turn x ys n.1 d.1)
      ]

  pub find-insert_by : (p : X → Bool) (x : X) (ys : List X) → p x ≡ true → None_of p ys → find p (insert_by cmp x ys) ≡ Some x
  find-insert_by p x [] h n = rw h refl
  find-insert_by p x (y ∷ ys) h n = elim (is_lt (cmp x y)) as (λ b. find p (if b then x ∷ y ∷ ys else y ∷ insert_by cmp x ys) ≡ Some x) [ true ↦ rw h refl | false ↦ rw n.0 (find-insert_by p x ys h n.1) ]

  pub list_any-insert_by : (p : X → Bool) (x : X) (ys : List X) → list_any p (insert_by cmp x ys) ≡ (p x || list_any p ys)
  list_any-insert_by p x [] = refl
  list_any-insert_by p x (y ∷ ys) = elim (is_lt (cmp x y)) as (λ b. list_any p (if b then x ∷ y ∷ ys else y ∷ insert_by cmp x ys) ≡ (p x || (p y || list_any p ys))) [ true ↦ refl | false ↦ ap (λ b. p y || b) (list_any-insert_by p x ys) ∙ swapped (p y) (p x) (list_any p ys) ]
    where
      swapped : (a b c : Bool) → (a || (b || c)) ≡ (b || (a || c))
      swapped true true c = refl
      swapped true false c = refl
      swapped false b c = refl

  -- p holds of one at most
  abbrev pub OneAtMost : (X → Bool) → List X → Type 0
  OneAtMost p [] = Unit {0}
  OneAtMost p (x ∷ xs) = (p x ≡ true → None_of p xs) × OneAtMost p xs

  pub one_at_most : (same : X → X → Bool) → IsAlike same → (p : X → Bool) → ((x y : X) → p x ≡ true → same x y ≡ p y)
      → (xs : List X) → IsDistinct same xs → OneAtMost p xs
  unfolding IsDistinct
  one_at_most same alike p h [] d = tt
  one_at_most same alike p h (x ∷ xs) d = (λ e. others e xs d.0, one_at_most same alike p h xs d.1)
    where
      others : p x ≡ true → (ys : List X) → AllByRecursion (λ y. same x y ≡ false) ys → None_of p ys
      others e [] a = tt
      others e (y ∷ ys) a = (sym (h x y e) ∙ a.0, others e ys a.1)

  module _ (order : IsBelow cmp) (back : (x y : X) → is_lt (cmp x y) ≡ true → is_lt (cmp y x) ≡ false) where
    -- a list in order is what is left without the one that is found, with that put back
    pub put_back : (p : X → Bool) (x : X) (ys : List X) → Rising cmp ys → OneAtMost p ys → find p ys ≡ Some x
        → ys ≡ insert_by cmp x (filter (λ y. not (p y)) ys)
    put_back p x [] r o h = cc
    put_back p x (y ∷ ys) r o h =
        elim (p y) as (λ b. p y ≡ b → cond b (Some y) (find p ys) ≡ Some x → y ∷ ys ≡ insert_by cmp x (cond (not b) (y ∷ filter (λ z. not (p z)) ys) (filter (λ z. not (p z)) ys))) [
          | true ↦ λ e k. let same : y ≡ x = cc in rw (none_filtered p ys (o.0 e)) (subst (λ z. y ∷ ys ≡ insert_by cmp z ys) same (sym (insert_by-above cmp y ys r.0)))
          | false ↦ λ e k. ap (λ zs. y ∷ zs) (put_back p x ys r.1 o.1 k) ∙ sym (rw (back y x (found_all (λ z. is_lt (cmp y z) ≡ true) p ys x (above y ys r.0) k), insert_by) refl)
        ] refl h
      where
        above : (y : X) (ys : List X) → Above cmp y ys → AllByRecursion (λ z. is_lt (cmp y z) ≡ true) ys
        above y [] a = tt
        above y (z ∷ zs) a = (a.0, above y zs a.1)

    -- y comes before or after each of these
    abbrev pub Placed : X → List X → Type 0
    Placed y zs = AllByRecursion (λ z. is_lt (cmp y z) ≡ false → is_lt (cmp z y) ≡ true) zs

    Above-insert_by : (x y : X) (zs : List X) → is_lt (cmp x y) ≡ true → Above cmp x zs → Above cmp x (insert_by cmp y zs)
    Above-insert_by x y [] h a = (h, tt)
    Above-insert_by x y (z ∷ zs) h a = elim (is_lt (cmp y z)) as (λ b. Above cmp x (if b then y ∷ z ∷ zs else z ∷ insert_by cmp y zs)) [ true ↦ (h, a) | false ↦ (a.0, Above-insert_by x y zs h a.1) ]

    pub Rising-insert_by : (y : X) (zs : List X) → Placed y zs → Rising cmp zs → Rising cmp (insert_by cmp y zs)
    Rising-insert_by y [] p r = (tt, tt)
    Rising-insert_by y (z ∷ zs) p r =
        elim (is_lt (cmp y z)) as (λ b. is_lt (cmp y z) ≡ b → Rising cmp (if b then y ∷ z ∷ zs else z ∷ insert_by cmp y zs)) [
          | true ↦ λ e. ((e, Above-through cmp order.trans y z zs e r.0), r)
          | false ↦ λ e. (Above-insert_by z y zs (p.0 e) r.0, Rising-insert_by y zs p.1 r.1)
        ] refl

    -- whether one that is alike comes before y depends on the first that is alike
    pub preceded_none : (same : X → X → Bool) (y : X) (zs : List X) → None_of (same y) zs → is_preceded same cmp y zs ≡ false
    preceded_none same y [] n = refl
    preceded_none same y (z ∷ zs) n = rw n.0 (preceded_none same y zs n.1)

    pub preceded_first : (same : X → X → Bool) (y x : X) (zs : List X) → Rising cmp zs → find (same y) zs ≡ Some x
        → is_preceded same cmp y zs ≡ not (is_lt (cmp y x))
    preceded_first same y x [] r h = cc
    preceded_first same y x (z ∷ zs) r h =
        elim (same y z) as (λ b. cond b (Some z) (find (same y) zs) ≡ Some x → ((b && not (is_lt (cmp y z))) || is_preceded same cmp y zs) ≡ not (is_lt (cmp y x))) [
          | true ↦ λ k.
              let here : z ≡ x = cc in
              subst (λ w. ((true && not (is_lt (cmp y z))) || is_preceded same cmp y zs) ≡ not (is_lt (cmp y w))) here
              (elim (is_lt (cmp y z)) as (λ b. is_lt (cmp y z) ≡ b → ((true && not b) || is_preceded same cmp y zs) ≡ not b) [
                | true ↦ λ e. none_preceded zs (Above-through cmp order.trans y z zs e r.0)
                | false ↦ λ e. refl
              ] refl)
          | false ↦ λ k. preceded_first same y x zs r.1 k
        ] h
      where
        none_preceded : (zs : List X) → Above cmp y zs → is_preceded same cmp y zs ≡ false
        none_preceded [] a = refl
        none_preceded (z ∷ zs) a = rw a.0 (elim (same y z) as (λ b. ((b && false) || is_preceded same cmp y zs) ≡ false) [ true ↦ none_preceded zs a.1 | false ↦ none_preceded zs a.1 ])
