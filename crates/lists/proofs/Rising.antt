-- What an insert into a rising list does to the first of each that are alike.
use Rattle.std.proofs.Common.{◌≡◌, ◌≢◌, refl, sym, ap, ◌∙◌, Bool, true, false, not, ◌||◌, ◌&&◌, cond, List, [], ◌∷◌}
use Rattle.std.specs.Prelude.{if◌then◌else◌}
use Rattle.std.specs.List.{AllByRecursion, list_any, filter}
use Rattle.std.proofs.lemmas.List.Elements.{filter_agree}
use Rattle.std.specs.declared.cmp.Ordering.{Ordering}
use Rattle.std.specs.declared.cmp.Ordering.TheVariants.{Less, Equal, Greater}
use Rattle.std.specs.Ordering.{is_lt, ordering_then, ordering_reverse}
use Rattle.std.specs.Cmp.{IsTotalOrder}
use Rattle.std.specs.List.Sorted.{IsStrictlySortedBy}
use Rattle.std.proofs.lemmas.Bool.{false≢true}
use Rattle.lists.specs.Distinct.{firsts}
use Rattle.lists.specs.Sorted.{insert_by}

module _ {X : Type 0} (cmp : X → X → Ordering) where
  -- x is below each of them
  abbrev pub Above : X → List X → Type 0
  Above x [] = Unit {0}
  Above x (y ∷ ys) = (is_lt (cmp x y) ≡ true) × Above x ys

  abbrev pub Rising : List X → Type 0
  Rising [] = Unit {0}
  Rising (x ∷ xs) = Above x xs × Rising xs

  pub insert_by-above : (x : X) (ys : List X) → Above x ys → insert_by cmp x ys ≡ x ∷ ys
  insert_by-above x [] a = refl
  insert_by-above x (y ∷ ys) a = rw (a.0, insert_by) refl

  pub Above-filter : (x : X) (p : X → Bool) (ys : List X) → Above x ys → Above x (filter p ys)
  Above-filter x p [] a = tt
  Above-filter x p (y ∷ ys) a =
      elim (p y) as (λ b. Above x (cond b (y ∷ filter p ys) (filter p ys))) [ true ↦ (a.0, Above-filter x p ys a.1) | false ↦ Above-filter x p ys a.1 ]

  pub Rising-filter : (p : X → Bool) (ys : List X) → Rising ys → Rising (filter p ys)
  Rising-filter p [] r = tt
  Rising-filter p (y ∷ ys) r =
      elim (p y) as (λ b. Rising (cond b (y ∷ filter p ys) (filter p ys))) [ true ↦ (Above-filter y p ys r.0, Rising-filter p ys r.1) | false ↦ Rising-filter p ys r.1 ]

  module _ (trans : (x y z : X) → is_lt (cmp x y) ≡ true → is_lt (cmp y z) ≡ true → is_lt (cmp x z) ≡ true) where
    pub Above-through : (x y : X) (zs : List X) → is_lt (cmp x y) ≡ true → Above y zs → Above x zs
    Above-through x y [] h a = tt
    Above-through x y (z ∷ zs) h a = (trans x y z h a.0, Above-through x y zs h a.1)

    -- a filter and an insert
    pub filter-insert_by-kept : (p : X → Bool) (x : X) (ys : List X) → p x ≡ true → Rising ys
        → filter p (insert_by cmp x ys) ≡ insert_by cmp x (filter p ys)
    filter-insert_by-kept p x [] h r = rw h refl
    filter-insert_by-kept p x (y ∷ ys) h r =
        elim (is_lt (cmp x y)) as (λ b. is_lt (cmp x y) ≡ b → filter p (if b then x ∷ y ∷ ys else y ∷ insert_by cmp x ys) ≡ insert_by cmp x (filter p (y ∷ ys))) [
          | true ↦ λ e. rw h (sym (insert_by-above x (filter p (y ∷ ys)) (Above-filter x p (y ∷ ys) (e, Above-through x y ys e r.0))))
          | false ↦ λ e. elim (p y) as (λ b. cond b (y ∷ filter p (insert_by cmp x ys)) (filter p (insert_by cmp x ys)) ≡ insert_by cmp x (cond b (y ∷ filter p ys) (filter p ys))) [
            | true ↦ ap (λ zs. y ∷ zs) (filter-insert_by-kept p x ys h r.1) ∙ sym (rw (e, insert_by) refl)
            | false ↦ filter-insert_by-kept p x ys h r.1
          ]
        ] refl

  pub filter-insert_by-dropped : (p : X → Bool) (x : X) (ys : List X) → p x ≡ false → filter p (insert_by cmp x ys) ≡ filter p ys
  filter-insert_by-dropped p x [] h = rw h refl
  filter-insert_by-dropped p x (y ∷ ys) h =
      elim (is_lt (cmp x y)) as (λ b. filter p (if b then x ∷ y ∷ ys else y ∷ insert_by cmp x ys) ≡ filter p (y ∷ ys)) [
        | true ↦ rw h refl
        | false ↦ ap (λ zs. cond (p y) (y ∷ zs) zs) (filter-insert_by-dropped p x ys h)
      ]

filter-cond : {X : Type 0} (p : X → Bool) (c : Bool) (x : X) (xs : List X)
    → filter p (cond c (x ∷ xs) xs) ≡ cond c (cond (p x) (x ∷ filter p xs) (filter p xs)) (filter p xs)
filter-cond p true x xs = refl
filter-cond p false x xs = refl

filter-commute : {X : Type 0} (p q : X → Bool) (xs : List X) → filter p (filter q xs) ≡ filter q (filter p xs)
filter-commute p q [] = refl
filter-commute {X} p q (x ∷ xs) =
    filter-cond p (q x) x (filter q xs)
    ∙ turn (p x) (q x) (filter-commute p q xs)
    ∙ sym (filter-cond q (p x) x (filter p xs))
  where
    turn : (b c : Bool) {us vs : List X} → us ≡ vs → cond c (cond b (x ∷ us) us) us ≡ cond b (cond c (x ∷ vs) vs) vs
    turn true true e = ap (λ zs. x ∷ zs) e
    turn true false e = e
    turn false true e = e
    turn false false e = e

filter-twice : {X : Type 0} (p : X → Bool) (xs : List X) → filter p (filter p xs) ≡ filter p xs
filter-twice p [] = refl
filter-twice {X} p (x ∷ xs) = filter-cond p (p x) x (filter p xs) ∙ once (p x) (filter-twice p xs)
  where
    once : (b : Bool) {us vs : List X} → us ≡ vs → cond b (cond b (x ∷ us) us) us ≡ cond b (x ∷ vs) vs
    once true e = ap (λ zs. x ∷ zs) e
    once false e = e

-- what alike means
pub record IsAlike {X : Type 0} (same : X → X → Bool) : Type 0 where
  pub turn : (x y : X) → same x y ≡ same y x
  pub alike : (x y z : X) → same x y ≡ true → same x z ≡ same y z

-- a strict order
pub record IsBelow {X : Type 0} (cmp : X → X → Ordering) : Type 0 where
  pub trans : (x y z : X) → is_lt (cmp x y) ≡ true → is_lt (cmp y z) ≡ true → is_lt (cmp x z) ≡ true

module _ {X : Type 0} (same : X → X → Bool) (cmp : X → X → Ordering) where
  -- one that is alike comes before y
  abbrev pub is_preceded : X → List X → Bool
  is_preceded y zs = list_any (λ z. same y z && not (is_lt (cmp y z))) zs

  abbrev pub unlike : X → List X → List X
  unlike y zs = filter (λ z. not (same y z)) zs

  pub Above-firsts : (x : X) (ys : List X) → Above cmp x ys → Above cmp x (firsts same ys)
  Above-firsts x [] a = tt
  Above-firsts x (y ∷ ys) a = (a.0, Above-filter cmp x (λ z. not (same y z)) (firsts same ys) (Above-firsts x ys a.1))

  pub Rising-firsts : (ys : List X) → Rising cmp ys → Rising cmp (firsts same ys)
  Rising-firsts [] r = tt
  Rising-firsts (y ∷ ys) r = (Above-filter cmp y (λ z. not (same y z)) (firsts same ys) (Above-firsts y ys r.0), Rising-filter cmp (λ z. not (same y z)) (firsts same ys) (Rising-firsts ys r.1))

  not_preceded : (y : X) (zs : List X) → Above cmp y zs → is_preceded y zs ≡ false
  not_preceded y [] a = refl
  not_preceded y (z ∷ zs) a = rw a.0 (elim (same y z) as (λ b. (b && false) || is_preceded y zs ≡ false) [ true ↦ not_preceded y zs a.1 | false ↦ not_preceded y zs a.1 ])

  module _ (alike : IsAlike same) (order : IsBelow cmp) where
    -- The first of each that are alike, after an insert: as before where one that is alike comes earlier, else with y in the place of the one that was there
    pub firsts-insert_by : (y : X) (zs : List X) → Rising cmp zs
        → firsts same (insert_by cmp y zs) ≡ (if is_preceded y zs then firsts same zs else insert_by cmp y (unlike y (firsts same zs)))
    firsts-insert_by y [] r = refl
    firsts-insert_by y (z ∷ zs) r =
        elim (is_lt (cmp y z)) as (λ b. is_lt (cmp y z) ≡ b → firsts same (if b then y ∷ z ∷ zs else z ∷ insert_by cmp y zs) ≡ (if (same y z && not b) || is_preceded y zs then firsts same (z ∷ zs) else insert_by cmp y (unlike y (firsts same (z ∷ zs))))) [
          | true ↦ λ e. before e
          | false ↦ λ e. after (firsts-insert_by y zs r.1) e
        ] refl
      where
        F : List X
        F = firsts same zs

        above : is_lt (cmp y z) ≡ true → Above cmp y (z ∷ zs)
        above e = (e, Above-through cmp order.trans y z zs e r.0)

        before : is_lt (cmp y z) ≡ true
            → firsts same (y ∷ z ∷ zs) ≡ (if (same y z && false) || is_preceded y zs then firsts same (z ∷ zs) else insert_by cmp y (unlike y (firsts same (z ∷ zs))))
        before e =
            let none : ((same y z && false) || is_preceded y zs) ≡ false = elim (same y z) as (λ b. ((b && false) || is_preceded y zs) ≡ false) [ true ↦ not_preceded y zs (above e).1 | false ↦ not_preceded y zs (above e).1 ] in
            rw none (sym (insert_by-above cmp y (unlike y (firsts same (z ∷ zs))) (Above-filter cmp y (λ z. not (same y z)) (firsts same (z ∷ zs)) (Above-firsts y (z ∷ zs) (above e)))))

        -- z and y are alike: y is dropped
        dropped : same y z ≡ true → (b : Bool)
            → unlike z (if b then firsts same zs else insert_by cmp y (unlike y (firsts same zs))) ≡ unlike z (firsts same zs)
        dropped s true = refl
        dropped s false =
            filter-insert_by-dropped cmp (λ x. not (same z x)) y (unlike y (firsts same zs)) (ap not (sym (alike.turn y z) ∙ s))
            ∙ ap (filter (λ x. not (same z x))) (filter_agree (λ x. not (same y x)) (λ x. not (same z x)) (λ x. ap not (alike.alike y z x s)) (firsts same zs))
            ∙ filter-twice (λ x. not (same z x)) (firsts same zs)

        -- they are not: y goes on
        kept : is_lt (cmp y z) ≡ false → same y z ≡ false → (b : Bool)
            → z ∷ unlike z (if b then firsts same zs else insert_by cmp y (unlike y (firsts same zs))) ≡ (if b then firsts same (z ∷ zs) else insert_by cmp y (unlike y (firsts same (z ∷ zs))))
        kept e s true = refl
        kept e s false =
            ap (λ xs. z ∷ xs)
            (filter-insert_by-kept cmp order.trans (λ x. not (same z x)) y (unlike y (firsts same zs)) (ap not (sym (alike.turn y z) ∙ s)) (Rising-filter cmp (λ x. not (same y x)) (firsts same zs) (Rising-firsts zs r.1))
            ∙ ap (insert_by cmp y) (filter-commute (λ x. not (same z x)) (λ x. not (same y x)) (firsts same zs)))
            ∙ sym (rw s (rw e refl))

        after : firsts same (insert_by cmp y zs) ≡ (if is_preceded y zs then firsts same zs else insert_by cmp y (unlike y (firsts same zs)))
            → is_lt (cmp y z) ≡ false
            → firsts same (z ∷ insert_by cmp y zs) ≡ (if (same y z && true) || is_preceded y zs then firsts same (z ∷ zs) else insert_by cmp y (unlike y (firsts same (z ∷ zs))))
        after ih e =
            ap (λ xs. z ∷ unlike z xs) ih
            ∙ elim (same y z) as (λ b. same y z ≡ b → z ∷ unlike z (if is_preceded y zs then firsts same zs else insert_by cmp y (unlike y (firsts same zs))) ≡ (if (b && true) || is_preceded y zs then firsts same (z ∷ zs) else insert_by cmp y (unlike y (firsts same (z ∷ zs))))) [
              | true ↦ λ s. ap (λ xs. z ∷ xs) (dropped s (is_preceded y zs))
              | false ↦ λ s. kept e s (is_preceded y zs)
            ] refl

-- ---- total orders

is_Less : (o : Ordering) → is_lt o ≡ true → o ≡ Less
is_Less Less e = refl
is_Less Equal e = absurd (false≢true e)
is_Less Greater e = absurd (false≢true e)

module _ {X : Type 0} (cmp : X → X → Ordering) (total : IsTotalOrder cmp) where
  pub below_of : IsBelow cmp
  below_of = record { trans = λ x y z p q. ap is_lt (total.trans x y z (is_Less (cmp x y) p) (is_Less (cmp y z) q)) }

  pub never_back : (x y : X) → is_lt (cmp x y) ≡ true → is_lt (cmp y x) ≡ false
  never_back x y h = ap is_lt (total.antisymm y x) ∙ ap (λ o. is_lt (ordering_reverse o)) (is_Less (cmp x y) h)

  -- of two that don't tie one comes before the other
  pub apart : (x y : X) → cmp x y ≢ Equal → is_lt (cmp x y) ≡ false → is_lt (cmp y x) ≡ true
  apart x y h e = ap is_lt (total.antisymm y x) ∙ turned (cmp x y) e h
    where
      turned : (o : Ordering) → is_lt o ≡ false → o ≢ Equal → is_lt (ordering_reverse o) ≡ true
      turned Less e h = absurd (false≢true (sym e))
      turned Equal e h = absurd (h refl)
      turned Greater e h = refl

  below_all : (x : X) (ys : List X) → Above cmp x ys → AllByRecursion (λ y. cmp x y ≡ Less) ys
  below_all x [] a = tt
  below_all x (y ∷ ys) a = (is_Less (cmp x y) a.0, below_all x ys a.1)

  pub sorted_from : (xs : List X) → Rising cmp xs → IsStrictlySortedBy cmp xs
  unfolding IsStrictlySortedBy
  sorted_from [] r = tt
  sorted_from (x ∷ xs) r = (below_all x xs r.0, sorted_from xs r.1)

-- what ties by two orders ties by the second
pub second_Equal : (a b : Ordering) → ordering_then a b ≡ Equal → b ≡ Equal
second_Equal Less b e = cc
second_Equal Equal b e = e
second_Equal Greater b e = cc
