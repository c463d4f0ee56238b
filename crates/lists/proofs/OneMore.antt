-- One element that is put into a list in order, and the list that it is put into.
use Rattle.std.proofs.Common.{◌≡◌, refl, sym, ap, ◌∙◌, subst, ℕ, ◌+◌, Bool, true, false, not, is_some, List, [], ◌∷◌, ◌++◌, map, append_assoc, arith}
use Rattle.std.specs.Prelude.{if◌then◌else◌, sum_by}
use Rattle.std.specs.BTreeMap.{insert_entry, is_at}
use Rattle.std.specs.List.{AllByRecursion, IsDistinct, filter, list_any}
use Rattle.std.specs.List.Sorted.{IsStrictlySortedBy}
use Rattle.std.specs.Map.{remove_entry}
use Rattle.std.specs.declared.cmp.Ordering.{Ordering}
use Rattle.std.specs.declared.cmp.Ordering.TheVariants.{Less, Equal, Greater}
use Rattle.std.specs.Ordering.{is_lt, is_eq, eq_by_cmp, match_ordering}
use Rattle.std.specs.Cmp.{IsTotalOrder}
use Rattle.std.proofs.lemmas.Bool.{false≢true}
use Rattle.std.proofs.lemmas.Cmp.{eq_by_cmp_equiv}
use Rattle.std.proofs.lemmas.List.Sums.{sum_by-cons}
use Rattle.lists.specs.Sorted.{insert_by}
use Rattle.lists.proofs.Inserts.{None_of, none_found, none_filtered, list_any-found}
use Rattle.lists.proofs.Rising.{Above, Rising, below_of, never_back, filter-insert_by-kept, filter-insert_by-dropped}

pub none_among : {X : Type 0} (p : X → Bool) (xs : List X) → None_of p xs → list_any p xs ≡ false
none_among p xs n = list_any-found p xs ∙ ap is_some (none_found p xs n)

pub All-map : {X Y : Type 0} (P : Y → Type 0) (f : X → Y) (xs : List X) → AllByRecursion (λ x. P (f x)) xs
    → AllByRecursion P (map f xs)
All-map P f [] a = tt
All-map P f (x ∷ xs) a = (a.0, All-map P f xs a.1)

All-before : {X : Type 0} (P : X → Type 0) (xs ys : List X) → AllByRecursion P (xs ++ ys) → AllByRecursion P xs
All-before P [] ys a = tt
All-before P (x ∷ xs) ys a = (a.0, All-before P xs ys a.1)

All-middle : {X : Type 0} (P : X → Type 0) (xs : List X) (x : X) (ys : List X) → AllByRecursion P (xs ++ x ∷ ys) → P x
All-middle P [] x ys a = a.0
All-middle P (z ∷ xs) x ys a = All-middle P xs x ys a.1

IsDistinct-before : {X : Type 0} (same : X → X → Bool) (xs ys : List X) → IsDistinct same (xs ++ ys) → IsDistinct same xs
unfolding IsDistinct
IsDistinct-before same [] ys d = tt
IsDistinct-before same (x ∷ xs) ys d = (All-before (λ y. same x y ≡ false) xs ys d.0, IsDistinct-before same xs ys d.1)

module _ {X : Type 0} (cmp : X → X → Ordering) where
  All-left : (P : X → Type 0) (x : X) (ys : List X) → AllByRecursion P (insert_by cmp x ys) → P x × AllByRecursion P ys
  All-left P x [] a = a
  All-left P x (y ∷ ys) a =
      elim (is_lt (cmp x y)) as (λ b. AllByRecursion P (if b then x ∷ y ∷ ys else y ∷ insert_by cmp x ys) → P x × AllByRecursion P (y ∷ ys)) [
        | true ↦ λ k. k
        | false ↦ λ k. let rest = All-left P x ys k.1 in (rest.0, (k.0, rest.1))
      ] a

  -- none of the others is like one in a list in which no two are alike
  pub none_alike : (same : X → X → Bool) → ((x y : X) → same x y ≡ same y x) → (x : X) (ys : List X)
      → IsDistinct same (insert_by cmp x ys) → None_of (same x) ys
  unfolding IsDistinct
  none_alike same turn x [] d = tt
  none_alike same turn x (y ∷ ys) d =
      elim (is_lt (cmp x y)) as (λ b. IsDistinct same (if b then x ∷ y ∷ ys else y ∷ insert_by cmp x ys) → None_of (same x) (y ∷ ys)) [
        | true ↦ λ k. k.0
        | false ↦ λ k. (turn x y ∙ (All-left (λ z. same y z ≡ false) x ys k.0).0, none_alike same turn x ys k.1)
      ] d

  -- what is counted of it and of the others
  pub sum_by-insert_by : (f : X → ℕ) (x : X) (ys : List X) → sum_by f (insert_by cmp x ys) ≡ f x + sum_by f ys
  sum_by-insert_by f x [] = sum_by-cons f x []
  sum_by-insert_by f x (y ∷ ys) =
      elim (is_lt (cmp x y)) as (λ b. sum_by f (if b then x ∷ y ∷ ys else y ∷ insert_by cmp x ys) ≡ f x + sum_by f (y ∷ ys)) [
        | true ↦ sum_by-cons f x (y ∷ ys)
        | false ↦ omega (arith, sum_by-cons f y (insert_by cmp x ys), sum_by-cons f y ys, sum_by-insert_by f x ys)
      ]

  -- a map that keeps the order
  pub map-insert_by : {Y : Type 0} (f : X → Y) (other : Y → Y → Ordering) → ((x y : X) → other (f x) (f y) ≡ cmp x y)
      → (x : X) (ys : List X) → map f (insert_by cmp x ys) ≡ insert_by other (f x) (map f ys)
  map-insert_by f other agrees x [] = refl
  map-insert_by f other agrees x (y ∷ ys) =
      rw (agrees x y)
      (elim (is_lt (cmp x y)) as (λ b. map f (if b then x ∷ y ∷ ys else y ∷ insert_by cmp x ys) ≡ (if b then f x ∷ f y ∷ map f ys else f y ∷ insert_by other (f x) (map f ys))) [
        | true ↦ refl
        | false ↦ ap (λ zs. f y ∷ zs) (map-insert_by f other agrees x ys)
      ])

module _ {X : Type 0} (cmp : X → X → Ordering) (total : IsTotalOrder cmp) where
  above_from : (x : X) (ys : List X) → AllByRecursion (λ y. cmp x y ≡ Less) ys → Above cmp x ys
  above_from x [] a = tt
  above_from x (y ∷ ys) a = (ap is_lt a.0, above_from x ys a.1)

  rising_from : (xs : List X) → IsStrictlySortedBy cmp xs → Rising cmp xs
  unfolding IsStrictlySortedBy
  rising_from [] s = tt
  rising_from (x ∷ xs) s = (above_from x xs s.0, rising_from xs s.1)

  no_ties : (x : X) (ys : List X) → AllByRecursion (λ y. cmp x y ≡ Less) ys → None_of (eq_by_cmp cmp x) ys
  no_ties x [] a = tt
  no_ties x (y ∷ ys) a = (ap is_eq a.0, no_ties x ys a.1)

  -- ---- where the list with it is in order, so are the others, and none of them ties with it

  left : (x : X) (ys : List X) → IsStrictlySortedBy cmp (insert_by cmp x ys)
      → IsStrictlySortedBy cmp ys × None_of (eq_by_cmp cmp x) ys
  unfolding IsStrictlySortedBy
  left x [] s = (tt, tt)
  left x (y ∷ ys) s =
      elim (is_lt (cmp x y)) as (λ b. IsStrictlySortedBy cmp (if b then x ∷ y ∷ ys else y ∷ insert_by cmp x ys) → IsStrictlySortedBy cmp (y ∷ ys) × None_of (eq_by_cmp cmp x) (y ∷ ys)) [
        | true ↦ λ k. (k.1, no_ties x (y ∷ ys) k.0)
        | false ↦ λ k.
            let here = All-left cmp (λ z. cmp y z ≡ Less) x ys k.0 in
            let rest = left x ys k.1 in
            ((here.1, rest.0), ((eq_by_cmp_equiv total).symm x y ∙ ap is_eq here.0, rest.1))
      ] s

  pub sorted_left : (x : X) (ys : List X) → IsStrictlySortedBy cmp (insert_by cmp x ys) → IsStrictlySortedBy cmp ys
  sorted_left x ys s = (left x ys s).0

  pub none_ties : (x : X) (ys : List X) → IsStrictlySortedBy cmp (insert_by cmp x ys) → None_of (eq_by_cmp cmp x) ys
  none_ties x ys s = (left x ys s).1

  -- it stands among those that pass a test, or those are as they were
  pub filter-insert_by : (p : X → Bool) (x : X) (ys : List X) → IsStrictlySortedBy cmp ys
      → filter p (insert_by cmp x ys) ≡ (if p x then insert_by cmp x (filter p ys) else filter p ys)
  filter-insert_by p x ys s =
      elim (p x) as (λ b. p x ≡ b → filter p (insert_by cmp x ys) ≡ (if b then insert_by cmp x (filter p ys) else filter p ys)) [
        | true ↦ λ e. filter-insert_by-kept cmp (below_of cmp total).trans p x ys e (rising_from ys s)
        | false ↦ λ e. filter-insert_by-dropped cmp p x ys e
      ] refl

  -- ---- one that all before it precede

  pub sorted_before : (xs ys : List X) → IsStrictlySortedBy cmp (xs ++ ys) → IsStrictlySortedBy cmp xs
  unfolding IsStrictlySortedBy
  sorted_before [] ys s = tt
  sorted_before (x ∷ xs) ys s = (All-before (λ y. cmp x y ≡ Less) xs ys s.0, sorted_before xs ys s.1)

  pub put_last : (xs : List X) (x : X) (ys : List X) → IsStrictlySortedBy cmp (xs ++ x ∷ ys) → insert_by cmp x xs ≡ xs ++ x ∷ []
  unfolding IsStrictlySortedBy
  put_last [] x ys s = refl
  put_last (z ∷ xs) x ys s =
      let later : is_lt (cmp x z) ≡ false = never_back cmp total z x (ap is_lt (All-middle (λ y. cmp z y ≡ Less) xs x ys s.0)) in
      rw (later, insert_by) (ap (λ zs. z ∷ zs) (put_last xs x ys s.1))

  pub sorted_last : (xs : List X) (x : X) (ys : List X) → IsStrictlySortedBy cmp (xs ++ x ∷ ys) → IsStrictlySortedBy cmp (insert_by cmp x xs)
  sorted_last xs x ys s =
      subst (IsStrictlySortedBy cmp) (sym (put_last xs x ys s))
      (sorted_before (xs ++ x ∷ []) ys (subst (IsStrictlySortedBy cmp) (sym (append_assoc xs (x ∷ []) ys)) s))

  pub distinct_last : (same : X → X → Bool) (xs : List X) (x : X) (ys : List X) → IsStrictlySortedBy cmp (xs ++ x ∷ ys)
      → IsDistinct same (xs ++ x ∷ ys) → IsDistinct same (insert_by cmp x xs)
  distinct_last same xs x ys s d =
      subst (IsDistinct same) (sym (put_last xs x ys s))
      (IsDistinct-before same (xs ++ x ∷ []) ys (subst (IsDistinct same) (sym (append_assoc xs (x ∷ []) ys)) d))

-- the others are what is left without those that pass, where it passes and no other does
pub filter-taken : {X : Type 0} (cmp : X → X → Ordering) (p : X → Bool) (x : X) (ys : List X) → p x ≡ true → None_of p ys
    → filter (λ y. not (p y)) (insert_by cmp x ys) ≡ ys
filter-taken cmp p x ys h n = filter-insert_by-dropped cmp (λ y. not (p y)) x ys (ap not h) ∙ none_filtered p ys n

-- ---- the entry of one, among those of the others

module _ {X K V : Type 0} (cmp : X → X → Ordering) (order : K → K → Ordering) (key : X → K) (value : X → V)
    (agrees : (x y : X) → order (key x) (key y) ≡ cmp x y) where
  abbrev entry : X → K × V
  entry x = (key x, value x)

  pub insert_entry-map : (x : X) (ys : List X) → None_of (eq_by_cmp cmp x) ys
      → insert_entry order (map entry ys) (key x) (value x) ≡ map entry (insert_by cmp x ys)
  insert_entry-map x [] n = refl
  insert_entry-map x (y ∷ ys) n =
      let entries : Ordering → List (K × V) = λ o.
      match_ordering o (map entry (x ∷ y ∷ ys)) ((key y, value x) ∷ map entry ys) (entry y ∷ insert_entry order (map entry ys) (key x) (value x)) in
      ap entries (agrees x y)
      ∙ elim (cmp x y) as (λ o. is_eq o ≡ false → entries o ≡ map entry (if is_lt o then x ∷ y ∷ ys else y ∷ insert_by cmp x ys)) [
        | Less ↦ λ e. refl
        | Equal ↦ λ e. absurd (false≢true (sym e))
        | Greater ↦ λ e. ap (λ es. entry y ∷ es) (insert_entry-map x ys n.1)
      ] n.0

  pub remove_entry-map : (x : X) (ys : List X) → eq_by_cmp cmp x x ≡ true → None_of (eq_by_cmp cmp x) ys
      → remove_entry (is_at (order (key x))) (map entry (insert_by cmp x ys)) ≡ map entry ys
  remove_entry-map x [] h n = rw (ap is_eq (agrees x x) ∙ h) refl
  remove_entry-map x (y ∷ ys) h n =
      elim (is_lt (cmp x y)) as (λ b. remove_entry (is_at (order (key x))) (map entry (if b then x ∷ y ∷ ys else y ∷ insert_by cmp x ys)) ≡ map entry (y ∷ ys)) [
        | true ↦ rw (ap is_eq (agrees x x) ∙ h) refl
        | false ↦ rw (ap is_eq (agrees x y) ∙ n.0) (ap (λ es. entry y ∷ es) (remove_entry-map x ys h n.1))
      ]
