-- Lists without repeats.
use Rattle.std.proofs.Common.{◌≡◌, ◌<◌, ◌∙◌, refl, sym, ap, append-nil, arith, inl, inr, ℕ, Bool, true, false, not, cond, ◌||◌, List, [], ◌∷◌, ◌++◌, length, get_or, take}
use Rattle.std.specs.List.{All, filter, list_any, IsDistinct}
use Rattle.std.specs.Str.{bytes_eq}
use Rattle.std.proofs.lemmas.Bool.{and_parts, cases_Bool, false≢true, not-true, or_parts}
use Rattle.std.proofs.lemmas.Bool.Decides.{nat_tests}
use Rattle.std.proofs.lemmas.Cmp.{nat_list_eq_equiv}
use Rattle.std.proofs.lemmas.List.{get_or-take}
use Rattle.std.proofs.lemmas.List.Elements.{All-filter, All-from_get_or, All-from_recursion, All-same, All-weaker, filter-append, filter_passes, recursion_from_All}
use Rattle.std.proofs.lemmas.List.Folds.{list_any-append, list_any_none}
use Rattle.std.proofs.lemmas.Map.Keys.{IsDistinct-cons, IsDistinct-head, IsDistinct-tail, apart_from_distinct}
use Rattle.std.proofs.lemmas.Map.Views.{any-filter_same}
use Rattle.lists.specs.Distinct.{are_distinct, each_once, firsts}

-- a filter keeps elements apart
pub IsDistinct-filter : {X : Type 0} (same : X → X → Bool) (test : X → Bool) (xs : List X) → IsDistinct same xs → IsDistinct same (filter test xs)
IsDistinct-filter same test [] apart = apart
IsDistinct-filter {X} same test (x ∷ xs) apart =
    let Apart : X → Type 0 = λ y. same x y ≡ false in
    let first = All-filter test Apart xs (All-from_recursion Apart xs (IsDistinct-head same x xs apart)) in
    let rest : IsDistinct same (filter test xs) = IsDistinct-filter same test xs (IsDistinct-tail same x xs apart) in
    elim (test x) as (λ b. IsDistinct same (cond b (x ∷ filter test xs) (filter test xs))) [
      | true ↦ IsDistinct-cons same x (filter test xs) (recursion_from_All Apart (filter test xs) first) rest
      | false ↦ rest
    ]

-- no two of the first ones are alike
pub IsDistinct-firsts : {X : Type 0} (alike : X → X → Bool) (xs : List X) → IsDistinct alike (firsts alike xs)
unfolding IsDistinct
IsDistinct-firsts alike [] = tt
IsDistinct-firsts {X} alike (x ∷ xs) =
    let Apart : X → Type 0 = λ y. alike x y ≡ false in
    let others = λ (y : X). not (alike x y) in
    let rest = filter others (firsts alike xs) in
    let first : All Apart rest = All-weaker (λ y. others y ≡ true) Apart (λ y. not-true (alike x y)) rest (filter_passes others (firsts alike xs)) in
    IsDistinct-cons alike x rest (recursion_from_All Apart rest first) (IsDistinct-filter alike others (firsts alike xs) (IsDistinct-firsts alike xs))

-- a list of which no two are alike is without repeats
are_distinct-from : (xs : List (List ℕ)) → IsDistinct bytes_eq xs → are_distinct xs ≡ true
are_distinct-from [] apart = refl
are_distinct-from (x ∷ xs) apart =
    let none = list_any_none (bytes_eq x) xs (All-from_recursion (λ y. bytes_eq x y ≡ false) xs (IsDistinct-head bytes_eq x xs apart)) in
    rw (none, are_distinct-from xs (IsDistinct-tail bytes_eq x xs apart)) refl

pub are_distinct_once : (xs : List (List ℕ)) → are_distinct (each_once xs) ≡ true
are_distinct_once xs = are_distinct-from (each_once xs) (IsDistinct-firsts bytes_eq xs)

-- the ones before an index are apart from the one there
pub each_once-before : (xs ys : List (List ℕ)) (y : List ℕ) → let once = each_once xs in ys ≡ take (length ys) once → length ys < length once → y ≡ get_or once (length ys) y
    → All (λ other. bytes_eq other y ≡ false) ys
each_once-before xs ys y prefix lt here =
    let once = each_once xs in
    let Apart : List ℕ → Type 0 = λ other. bytes_eq other y ≡ false in
    All-same Apart ys (take (length ys) once) prefix (All-from_get_or Apart (take (length ys) once) y (λ k below.
    let before : k < length ys = omega (arith, ap length prefix) in
    rw (get_or-take (length ys) once k y before)
    (ap (bytes_eq (get_or once k y)) here ∙ apart_from_distinct bytes_eq once k (length ys) y (IsDistinct-firsts bytes_eq xs) before lt)))

-- ---- one more after a list

module _ {X : Type 0} (test : X → Bool) (xs : List X) (y : X) where
  filter_more_passing : test y ≡ true → filter test (xs ++ y ∷ []) ≡ filter test xs ++ y ∷ []
  filter_more_passing passes = filter-append test xs (y ∷ []) ∙ rw passes refl

  filter_more_failing : test y ≡ false → filter test (xs ++ y ∷ []) ≡ filter test xs
  filter_more_failing fails = filter-append test xs (y ∷ []) ∙ rw fails (append-nil (filter test xs))

-- a function of a choice is a choice of its values
ap_cond : {X Y : Type 0} (f : X → Y) (b : Bool) (x y : X) → f (cond b x y) ≡ cond b (f x) (f y)
ap_cond f true x y = refl
ap_cond f false x y = refl

-- a choice between one and the same
cond_same : {X : Type 0} (b : Bool) (x : X) → cond b x x ≡ x
cond_same true x = refl
cond_same false x = refl

-- ---- of elements that are alike only the first, where what is alike the same is alike

module _ {X : Type 0} (alike : X → X → Bool) (trans : (x y z : X) → alike x y ≡ true → alike y z ≡ true → alike x z ≡ true) where
  -- one that is alike y is not alike what y is apart from
  apart_with : (x y z : X) → alike x y ≡ false → alike z y ≡ true → not (alike x z) ≡ true
  apart_with x y z apart same = elim (cases_Bool (alike x z)) [
    | inl h ↦ absurd (false≢true (sym apart ∙ trans x z y h same))
    | inr h ↦ rw h refl
  ]

  -- one more is put after the others where none is alike
  pub firsts-push : (xs : List X) (y : X)
      → firsts alike (xs ++ y ∷ []) ≡ cond (list_any (λ x. alike x y) (firsts alike xs)) (firsts alike xs) (firsts alike xs ++ y ∷ [])
  firsts-push [] y = refl
  firsts-push (x ∷ xs) y =
      let once = firsts alike xs in
      let known = list_any (λ z. alike z y) once in
      let others = λ (z : X). not (alike x z) in
      let onto = λ (zs : List X). x ∷ filter others zs in
      ap onto (firsts-push xs y) ∙ ap_cond onto known once (once ++ y ∷ []) ∙ elim (cases_Bool (alike x y)) [
        | inl same ↦ rw (filter_more_failing others once y (rw same refl), same) (cond_same known (onto once))
        | inr apart ↦ rw (filter_more_passing others once y (rw apart refl), apart, any-filter_same (λ z. alike z y) others true (λ z. apart_with x y z apart) once) refl
      ]

  -- the same, by whether one of the first ones is alike
  pub firsts_next : (xs once : List X) (y : X) (known : Bool) → once ≡ firsts alike xs → known ≡ list_any (λ x. alike x y) once
      → firsts alike (xs ++ y ∷ []) ≡ cond known once (once ++ y ∷ [])
  firsts_next xs once y known so_far is = rw (firsts-push xs y, is, so_far) refl

  -- one is alike an element exactly where it is alike a first one
  pub firsts-member : (xs : List X) (y : X) → list_any (λ x. alike x y) (firsts alike xs) ≡ list_any (λ x. alike x y) xs
  firsts-member [] y = refl
  firsts-member (x ∷ xs) y =
      let others = λ (z : X). not (alike x z) in
      elim (cases_Bool (alike x y)) [
        | inl same ↦ rw same refl
        | inr apart ↦ rw (apart, any-filter_same (λ z. alike z y) others true (λ z. apart_with x y z apart) (firsts alike xs)) (firsts-member xs y)
      ]

  -- one more element, by whether one that is alike came before
  pub firsts_more : (xs once : List X) (y : X) (known : Bool) → once ≡ firsts alike xs → known ≡ list_any (λ x. alike x y) xs
      → firsts alike (xs ++ y ∷ []) ≡ cond known once (once ++ y ∷ [])
  firsts_more xs once y known so_far is = rw (firsts-push xs y, firsts-member xs y, so_far, is) refl

either_more : (b c : Bool) → cond c true b ≡ (b || (c || false))
either_more true true = refl
either_more true false = refl
either_more false true = refl
either_more false false = refl

-- one is alike an element, or alike the one more
pub member_more : {X : Type 0} (alike : X → X → Bool) (xs : List X) (x q : X) (same known : Bool) → same ≡ alike x q → known ≡ list_any (λ y. alike y q) xs
    → cond same true known ≡ list_any (λ y. alike y q) (xs ++ x ∷ [])
member_more alike xs x q same known here before =
    rw (here, before, list_any-append (λ y. alike y q) xs (x ∷ [])) (either_more (list_any (λ y. alike y q) xs) (alike x q))

-- ---- lists of bytes without repeats

bytes_eq-swap : (x y : List ℕ) → bytes_eq x y ≡ bytes_eq y x
bytes_eq-swap x y = nat_list_eq_equiv.symm x y

-- one that is there already makes two that are alike
pub distinct_again : (xs : List (List ℕ)) (x : List ℕ) (ys : List (List ℕ)) → list_any (bytes_eq x) xs ≡ true → are_distinct (xs ++ x ∷ ys) ≡ false
distinct_again [] x ys h = absurd (cc)
distinct_again (y ∷ xs) x ys h =
    let at_end = list_any-append (bytes_eq y) xs (x ∷ ys) in
    elim (cases_Bool (bytes_eq x y)) [
      | inl same ↦ rw (at_end, sym (bytes_eq-swap x y) ∙ same) (grind (arith, nat_tests))
      | inr apart ↦ rw (distinct_again xs x ys (rw apart at h)) (grind (arith, nat_tests))
    ]

-- one that is not there yet may be put after the others
pub distinct_more : (xs : List (List ℕ)) (x : List ℕ) → are_distinct xs ≡ true → list_any (bytes_eq x) xs ≡ false → are_distinct (xs ++ x ∷ []) ≡ true
distinct_more [] x h new = refl
distinct_more (y ∷ xs) x h new =
    let old = and_parts (not (list_any (bytes_eq y) xs)) (are_distinct xs) h in
    let parts = or_parts (bytes_eq x y) (list_any (bytes_eq x) xs) new in
    let at_end = list_any-append (bytes_eq y) xs (x ∷ []) in
    let none : list_any (bytes_eq y) xs ≡ false = not-true (list_any (bytes_eq y) xs) old.0 in
    rw (at_end, none, sym (bytes_eq-swap x y) ∙ parts.0, distinct_more xs x old.1 parts.1) refl
