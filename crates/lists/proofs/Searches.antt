-- What a binary search finds among values in order, and what an insert or a removal there does.
use Rattle.std.proofs.Common.{◌≡◌, ◌≢◌, refl, sym, ap, ◌∙◌, subst, ℕ, Bool, zero, suc, ◌+◌, ◌<◌, ◌≤◌, true, false, not, ◌||◌, ◌⊎◌, inl, inr, List, [], ◌∷◌, length, get_or, Result, Ok, Err, is_ok, arith}
use Rattle.std.specs.Prelude.{if◌then◌else◌, filter, slice_set}
use Rattle.std.specs.List.{insert, remove, list_any, AllByRecursion, HoldsAt}
use Rattle.std.specs.List.Sorted.{IsStrictlySortedBy, IsNonDecreasingBy, IsPartitionPoint, IsBinarySearchResult, IsSearchInRange}
use Rattle.std.specs.declared.cmp.Ordering.{Ordering}
use Rattle.std.specs.declared.cmp.Ordering.TheVariants.{Less, Equal, Greater}
use Rattle.std.specs.Ordering.{is_lt, ordering_index, ordering_reverse, eq_by_cmp, is_eq}
use Rattle.std.specs.Cmp.{IsTotalOrder}
use Rattle.std.proofs.lemmas.Bool.{false≢true, or_parts}
use Rattle.std.proofs.lemmas.List.Sorted.{searchable_from_sorted}
use Rattle.std.proofs.lemmas.Map.Keys.{Less-from_sorted}
use Rattle.lists.specs.Sorted.{insert_by}
use Rattle.lists.proofs.Rising.{apart}
use Rattle.lists.proofs.Inserts.{None_of, none_filtered, All-insert_by}

is_Less : (o : Ordering) → is_lt o ≡ true → o ≡ Less
is_Less Less e = refl
is_Less Equal e = absurd (false≢true e)
is_Less Greater e = absurd (false≢true e)

module _ {X : Type 0} (cmp : X → X → Ordering) (total : IsTotalOrder cmp) where
  turned : (x y : X) (o : Ordering) → cmp x y ≡ o → cmp y x ≡ ordering_reverse o
  turned x y o e = total.antisymm y x ∙ ap ordering_reverse e

  -- the comparisons with a value rise, as a binary search asks
  pub comparisons_rise : (v : X) (xs : List X) → IsStrictlySortedBy cmp xs → IsNonDecreasingBy (λ y. ordering_index (cmp y v)) xs
  comparisons_rise v xs sorted =
      searchable_from_sorted total (λ y. y) xs v
      (λ k d low high. ap is_lt (turned (get_or xs k d) (get_or xs (k + 1) d) Less (Less-from_sorted cmp xs k (k + 1) d sorted (omega arith) high)))

  -- ---- an insert

  -- between what is below and what is above
  pub inserted : (v : X) (xs : List X) (i : ℕ) → i ≤ length xs
      → IsPartitionPoint (λ y. cmp y v ≡ Less) (λ y. cmp y v ≡ Greater) xs i → insert xs i v ≡ insert_by cmp v xs
  inserted v [] zero h p = refl
  inserted v [] (suc i) h p = absurd (omega (arith, h))
  inserted v (x ∷ xs) zero h p =
      let less : is_lt (cmp v x) ≡ true = ap is_lt (turned x v Greater (p.1 0 x (omega arith) (omega arith))) in
      sym (rw (less, insert_by) refl)
  inserted v (x ∷ xs) (suc i) h p =
      let not_less : is_lt (cmp v x) ≡ false = ap is_lt (turned x v Less (p.0 0 x (omega arith) (omega arith))) in
      ap (λ ys. x ∷ ys) (inserted v xs i (omega (arith, h)) (λ k d low high. p.0 (suc k) d (omega arith) (omega (arith, high)), λ k d low high. p.1 (suc k) d (omega (arith, low)) (omega (arith, high))))
      ∙ sym (rw (not_less, insert_by) refl)

  below_all : (v x : X) (xs : List X) → cmp v x ≡ Less → AllByRecursion (λ y. cmp x y ≡ Less) xs
      → AllByRecursion (λ y. cmp v y ≡ Less) xs
  below_all v x [] h a = tt
  below_all v x (y ∷ ys) h a = (total.trans v x y h a.0, below_all v x ys h a.1)

  -- of a value that ties with none
  pub sorted_insert : (v : X) (xs : List X) → list_any (eq_by_cmp cmp v) xs ≡ false → IsStrictlySortedBy cmp xs
      → IsStrictlySortedBy cmp (insert_by cmp v xs)
  unfolding IsStrictlySortedBy
  sorted_insert v [] none sorted = (tt, tt)
  sorted_insert v (x ∷ xs) none sorted =
      let parts = or_parts (eq_by_cmp cmp v x) (list_any (eq_by_cmp cmp v) xs) none in
      let other : cmp v x ≢ Equal = λ e. false≢true (sym parts.0 ∙ ap is_eq e) in
      elim (is_lt (cmp v x)) as (λ b. is_lt (cmp v x) ≡ b → IsStrictlySortedBy cmp (if b then v ∷ x ∷ xs else x ∷ insert_by cmp v xs)) [
        | true ↦ λ e. let less = is_Less (cmp v x) e in ((less, below_all v x xs less sorted.0), sorted)
        | false ↦ λ e. (All-insert_by cmp (λ y. cmp x y ≡ Less) v xs (is_Less (cmp x v) (apart cmp total v x other e)) sorted.0, sorted_insert v xs parts.1 sorted.1)
      ] refl

  -- a value that ties with none is not found
  absent : (v : X) (xs : List X) (i : ℕ) → i < length xs → HoldsAt (λ y. cmp y v ≡ Equal) xs i → list_any (eq_by_cmp cmp v) xs ≡ true
  absent v [] i h at = absurd (omega (arith, h))
  absent v (x ∷ xs) zero h at = rw (ap is_eq (turned x v Equal (at x))) refl
  absent v (x ∷ xs) (suc i) h at =
      elim (eq_by_cmp cmp v x) as (λ b. (b || list_any (eq_by_cmp cmp v) xs) ≡ true) [ true ↦ refl | false ↦ absent v xs i (omega (arith, h)) (λ d. at d) ]

  -- so the search ends between what is below and what is above
  pub placed : (v : X) (xs : List X) (i : ℕ) (r : Result ℕ ℕ) → list_any (eq_by_cmp cmp v) xs ≡ false → IsStrictlySortedBy cmp xs
      → IsSearchInRange r (length xs) → IsBinarySearchResult (λ y. cmp y v) xs r → (r ≡ Ok i) ⊎ (r ≡ Err i)
      → insert xs i v ≡ insert_by cmp v xs
  placed v xs i r none sorted = by r
    where
      by : (r : Result ℕ ℕ) → IsSearchInRange r (length xs) → IsBinarySearchResult (λ y. cmp y v) xs r → (r ≡ Ok i) ⊎ (r ≡ Err i)
          → insert xs i v ≡ insert_by cmp v xs
      by (Ok k) range found is = absurd (false≢true (sym none ∙ absent v xs k range found))
      by (Err k) range found (inl is) = cc
      by (Err k) range found (inr is) =
          let same : k ≡ i = cc in
          inserted v xs i (subst (λ j. j ≤ length xs) same range) (subst (IsPartitionPoint (λ y. cmp y v ≡ Less) (λ y. cmp y v ≡ Greater) xs) same (found (comparisons_rise v xs sorted)))

  -- ---- a removal

  -- none is alike of those that are all below or all above
  none_alike : (v : X) (xs : List X) → AllByRecursion (λ y. cmp v y ≡ Less) xs → None_of (eq_by_cmp cmp v) xs
  none_alike v [] a = tt
  none_alike v (x ∷ xs) a = (ap is_eq a.0, none_alike v xs a.1)

  -- what is above a value is above one that ties with it
  alike : (v x : X) (ys : List X) → cmp x v ≡ Equal → AllByRecursion (λ y. cmp x y ≡ Less) ys → AllByRecursion (λ y. cmp v y ≡ Less) ys
  alike v x [] e a = tt
  alike v x (y ∷ ys) e a = (sym (total.congr x v y e) ∙ a.0, alike v x ys e a.1)

  -- the value that is found is the only one that ties
  pub removed : (v : X) (xs : List X) (i : ℕ) → i < length xs → HoldsAt (λ y. cmp y v ≡ Equal) xs i → IsStrictlySortedBy cmp xs
      → remove xs i ≡ filter (λ y. not (eq_by_cmp cmp v y)) xs
  unfolding IsStrictlySortedBy
  removed v [] i h at sorted = absurd (omega (arith, h))
  removed v (x ∷ xs) zero h at sorted =
      let here : cmp x v ≡ Equal = at x in
      let ties : eq_by_cmp cmp v x ≡ true = ap is_eq (turned x v Equal here) in
      let others = none_alike v xs (alike v x xs here sorted.0) in
      sym (rw ties (none_filtered (eq_by_cmp cmp v) xs others))
  removed v (x ∷ xs) (suc i) h at sorted =
      let found : X = get_or xs i x in
      let less : cmp x found ≡ Less = Less-from_sorted cmp (x ∷ xs) 0 (suc i) x sorted (omega arith) (omega (arith, h)) in
      let other : eq_by_cmp cmp v x ≡ false = ap is_eq (sym (total.congr found v x (at x)) ∙ turned x found Less less) in
      ap (λ ys. x ∷ ys) (removed v xs i (omega (arith, h)) (λ d. at d) sorted.1) ∙ sym (rw other refl)

  -- and where none is found, none ties
  pub none_found : (v : X) (xs : List X) (i : ℕ) → i ≤ length xs
      → IsPartitionPoint (λ y. cmp y v ≡ Less) (λ y. cmp y v ≡ Greater) xs i → None_of (eq_by_cmp cmp v) xs
  none_found v [] i h p = tt
  none_found v (x ∷ xs) zero h p = (
    ap is_eq (turned x v Greater (p.1 0 x (omega arith) (omega arith))),
    none_found v xs 0 (omega arith) (λ k d low high. absurd (omega (arith, high)), λ k d low high. p.1 (suc k) d (omega arith) (omega (arith, high))),
  )
  none_found v (x ∷ xs) (suc i) h p = (
    ap is_eq (turned x v Less (p.0 0 x (omega arith) (omega arith))),
    none_found v xs i (omega (arith, h)) (λ k d low high. p.0 (suc k) d (omega arith) (omega (arith, high)), λ k d low high. p.1 (suc k) d (omega (arith, low)) (omega (arith, high))),
  )

  any_none : (p : X → Bool) (xs : List X) → None_of p xs → list_any p xs ≡ false
  any_none p [] n = refl
  any_none p (x ∷ xs) n = rw n.0 (any_none p xs n.1)

  -- a search finds a value just where one ties
  pub searched : (v : X) (xs : List X) (r : Result ℕ ℕ) → IsStrictlySortedBy cmp xs → IsSearchInRange r (length xs)
      → IsBinarySearchResult (λ y. cmp y v) xs r → is_ok r ≡ list_any (eq_by_cmp cmp v) xs
  searched v xs (Ok k) sorted range found = sym (absent v xs k range found)
  searched v xs (Err k) sorted range found = sym (any_none (eq_by_cmp cmp v) xs (none_found v xs k range (found (comparisons_rise v xs sorted))))

  -- ---- a value put in

  -- what is left ties with none
  pub none_left : (v : X) (xs : List X) → list_any (eq_by_cmp cmp v) (filter (λ y. not (eq_by_cmp cmp v y)) xs) ≡ false
  none_left v [] = refl
  none_left v (x ∷ xs) = elim (eq_by_cmp cmp v x) as (λ b. eq_by_cmp cmp v x ≡ b → list_any (eq_by_cmp cmp v) (if not b then x ∷ filter (λ y. not (eq_by_cmp cmp v y)) xs else filter (λ y. not (eq_by_cmp cmp v y)) xs) ≡ false) [
    | true ↦ λ e. none_left v xs
    | false ↦ λ e. rw e (none_left v xs)
  ] refl

  -- in place of the one that ties with it
  pub replaced : (v : X) (xs : List X) (i : ℕ) → i < length xs → HoldsAt (λ y. cmp y v ≡ Equal) xs i → IsStrictlySortedBy cmp xs
      → slice_set xs i v ≡ insert_by cmp v (filter (λ y. not (eq_by_cmp cmp v y)) xs)
  unfolding IsStrictlySortedBy
  replaced v [] i h at sorted = absurd (omega (arith, h))
  replaced v (x ∷ xs) zero h at sorted =
      let here : cmp x v ≡ Equal = at x in
      let ties : eq_by_cmp cmp v x ≡ true = ap is_eq (turned x v Equal here) in
      let above = alike v x xs here sorted.0 in
      sym (rw (ties, none_filtered (eq_by_cmp cmp v) xs (none_alike v xs above)) (first v xs above))
    where
      first : (v : X) (ys : List X) → AllByRecursion (λ y. cmp v y ≡ Less) ys → insert_by cmp v ys ≡ v ∷ ys
      first v [] a = refl
      first v (y ∷ ys) a = rw (ap is_lt a.0, insert_by) refl
  replaced v (x ∷ xs) (suc i) h at sorted =
      let found : X = get_or xs i x in
      let less : cmp x found ≡ Less = Less-from_sorted cmp (x ∷ xs) 0 (suc i) x sorted (omega arith) (omega (arith, h)) in
      let above : cmp v x ≡ Greater = sym (total.congr found v x (at x)) ∙ turned x found Less less in
      rw (ap is_eq above, ap is_lt above, insert_by) (ap (λ ys. x ∷ ys) (replaced v xs i (omega (arith, h)) (λ d. at d) sorted.1))
