-- Where a search in the spots of a chat ends, and what an insert, a removal or another value there does.
use Rattle.std.proofs.Common.{◌≡◌, refl, sym, ap, ◌∙◌, subst, ℕ, zero, suc, ◌<◌, ◌≤◌, Bool, true, false, ◌||◌, Err, List, [], ◌∷◌, ◌++◌, length, arith}
use Rattle.std.specs.Prelude.{slice_set}
use Rattle.std.specs.List.{AllByRecursion, HoldsAt, list_all, list_any}
use Rattle.std.specs.List.Sorted.{IsBinarySearchResult, IsPartitionPoint, IsStrictlySortedBy}
use Rattle.std.specs.declared.cmp.Ordering.{Ordering}
use Rattle.std.specs.declared.cmp.Ordering.TheVariants.{Less, Equal, Greater}
use Rattle.std.specs.Ordering.{eq_by_cmp, is_eq, is_lt, ordering_reverse}
use Rattle.std.specs.Cmp.{IsTotalOrder}
use Rattle.std.proofs.Math.Seq.{set-append_seam}
use Rattle.std.proofs.lemmas.Bool.{false≢true}
use Rattle.std.proofs.lemmas.Cmp.{tied_itself}
use Rattle.std.proofs.lemmas.List.Folds.{list_all_at}
use Rattle.lists.proofs.Searches.{comparisons_rise, none_found}
use Rattle.lists.proofs.OneMore.{none_among}

-- ---- edits at the seam of two lists

module _ {X : Type 0} (xs ys : List X) where
  pub set_seam : (i : ℕ) (x y : X) → i ≡ length xs → slice_set (xs ++ x ∷ ys) i y ≡ xs ++ y ∷ ys
  set_seam i x y at = ap (λ k. slice_set (xs ++ x ∷ ys) k y) at ∙ set-append_seam xs x ys y

-- ---- where a search ends

module _ {X : Type 0} (cmp : X → X → Ordering) (total : IsTotalOrder cmp) where
  turned : (x y : X) (o : Ordering) → cmp x y ≡ o → cmp y x ≡ ordering_reverse o
  turned x y o e = total.antisymm y x ∙ ap ordering_reverse e

  both_ways : {P : Type 0} (x y : X) → cmp x y ≡ Less → cmp x y ≡ Greater → P
  both_ways x y h k = absurd (false≢true (sym (ap is_lt k) ∙ ap is_lt h))

  not_equal : {P : Type 0} (x y : X) → cmp x y ≡ Less → cmp x y ≡ Equal → P
  not_equal x y h k = absurd (false≢true (sym (ap is_lt k) ∙ ap is_lt h))

  -- with a value between those before and those after it
  abbrev pub IsBetween : List X → X → List X → Type 0
  IsBetween before x after = IsStrictlySortedBy cmp (before ++ x ∷ after)

  middle : (P : X → Type 0) (before : List X) (x : X) (after : List X) → AllByRecursion P (before ++ x ∷ after) → P x
  middle P [] x after h = h.0
  middle P (b ∷ before) x after h = middle P before x after h.1

  all_but : (P : X → Type 0) (before : List X) (x : X) (after : List X) → AllByRecursion P (before ++ x ∷ after) → AllByRecursion P (before ++ after)
  all_but P [] x after h = h.1
  all_but P (b ∷ before) x after h = (h.0, all_but P before x after h.1)

  pub sorted_without : (before : List X) (x : X) (after : List X) → IsBetween before x after → IsStrictlySortedBy cmp (before ++ after)
  unfolding IsStrictlySortedBy
  sorted_without [] x after s = s.1
  sorted_without (b ∷ before) x after s = (all_but (λ y. cmp b y ≡ Less) before x after s.0, sorted_without before x after s.1)

  -- what is between them ties with none of them
  pub none_tie : (before : List X) (x : X) (after : List X) → IsBetween before x after → list_any (eq_by_cmp cmp x) (before ++ after) ≡ false
  unfolding IsStrictlySortedBy
  none_tie [] x after s = later after s.0
    where
      later : (ys : List X) → AllByRecursion (λ y. cmp x y ≡ Less) ys → list_any (eq_by_cmp cmp x) ys ≡ false
      later [] a = refl
      later (y ∷ ys) a = rw (ap is_eq a.0) (later ys a.1)
  none_tie (b ∷ before) x after s =
      rw (ap is_eq (turned b x Less (middle (λ y. cmp b y ≡ Less) before x after s.0))) (none_tie before x after s.1)

  -- the place between what is below and what is above
  pub place_of : (before : List X) (x : X) (after : List X) (i : ℕ) → IsBetween before x after → i ≤ length (before ++ after)
      → IsPartitionPoint (λ y. cmp y x ≡ Less) (λ y. cmp y x ≡ Greater) (before ++ after) i → i ≡ length before
  unfolding IsStrictlySortedBy
  place_of [] x after zero s h p = refl
  place_of [] x [] (suc i) s h p = absurd (omega (arith, h))
  place_of [] x (y ∷ after) (suc i) s h p = both_ways y x (p.0 0 y (omega arith) (omega arith)) (turned x y Less s.0.0)
  place_of (b ∷ before) x after zero s h p =
      both_ways b x (middle (λ y. cmp b y ≡ Less) before x after s.0) (p.1 0 b (omega arith) (omega arith))
  place_of (b ∷ before) x after (suc i) s h p =
      ap suc (place_of before x after i s.1 (omega (arith, h))
      (λ k d low high. p.0 (suc k) d (omega arith) (omega (arith, high)), λ k d low high. p.1 (suc k) d (omega (arith, low)) (omega (arith, high))))

  -- the place of the value that ties
  pub index_of : (before : List X) (x : X) (after : List X) (i : ℕ) → IsBetween before x after → i < length (before ++ x ∷ after)
      → HoldsAt (λ y. cmp y x ≡ Equal) (before ++ x ∷ after) i → i ≡ length before
  unfolding IsStrictlySortedBy
  index_of [] x after zero s h at = refl
  index_of [] x after (suc i) s h at = later after i s.0 (omega (arith, h)) (λ d. at d)
    where
      later : (ys : List X) (j : ℕ) → AllByRecursion (λ y. cmp x y ≡ Less) ys → j < length ys → HoldsAt (λ y. cmp y x ≡ Equal) ys j → suc i ≡ 0
      later [] j a k found = absurd (omega (arith, k))
      later (y ∷ ys) zero a k found = not_equal x y a.0 (turned y x Equal (found y))
      later (y ∷ ys) (suc j) a k found = later ys j a.1 (omega (arith, k)) (λ d. found d)
  index_of (b ∷ before) x after zero s h at = not_equal b x (middle (λ y. cmp b y ≡ Less) before x after s.0) (at b)
  index_of (b ∷ before) x after (suc i) s h at = ap suc (index_of before x after i s.1 (omega (arith, h)) (λ d. at d))

  -- ---- what a search tells

  all_less : (x : X) (xs : List X) → IsPartitionPoint (λ y. cmp y x ≡ Less) (λ y. cmp y x ≡ Greater) xs (length xs) → list_all (λ y. is_lt (cmp y x)) xs ≡ true
  all_less x [] p = refl
  all_less x (y ∷ ys) p =
      rw (ap is_lt (p.0 0 y (omega arith) (omega arith)))
      (all_less x ys (λ k d low high. p.0 (suc k) d (omega arith) (omega (arith, high)), λ k d low high. absurd (omega (arith, low, high))))

  module _ (x : X) (xs : List X) (sorted : IsStrictlySortedBy cmp xs) (i : ℕ) (within : i ≤ length xs)
      (found : IsBinarySearchResult (λ y. cmp y x) xs (Err i)) where
    pub partition : IsPartitionPoint (λ y. cmp y x ≡ Less) (λ y. cmp y x ≡ Greater) xs i
    partition = found (comparisons_rise cmp total x xs sorted)

    -- none ties, and all are below just where the place is the end
    pub none_ties : list_any (eq_by_cmp cmp x) xs ≡ false
    none_ties = none_among (eq_by_cmp cmp x) xs (none_found cmp total x xs i within partition)

    pub all_below : length xs ≤ i → list_all (λ y. is_lt (cmp y x)) xs ≡ true
    all_below h =
        let end : i ≡ length xs = omega (arith, h, within) in
        all_less x xs (subst (IsPartitionPoint (λ y. cmp y x ≡ Less) (λ y. cmp y x ≡ Greater) xs) end partition)

    pub one_above : i < length xs → list_all (λ y. is_lt (cmp y x)) xs ≡ false
    one_above h = list_all_at (λ y. is_lt (cmp y x)) xs i x h (ap is_lt (partition.1 i x (omega arith) h))

  -- a value ties with itself, wherever it is
  pub ties_there : (before : List X) (x : X) (after : List X) → list_any (eq_by_cmp cmp x) (before ++ x ∷ after) ≡ true
  ties_there [] x after = ap (λ o. is_eq o || list_any (eq_by_cmp cmp x) after) (tied_itself total x)
  ties_there (b ∷ before) x after = rw (ties_there before x after) (or_true (eq_by_cmp cmp x b))
    where
      or_true : (b : Bool) → (b || true) ≡ true
      or_true true = refl
      or_true false = refl
