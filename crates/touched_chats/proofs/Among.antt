-- One that is among others, which a test finds.
use Rattle.std.proofs.Common.{◌≡◌, refl, sym, ap, ◌∙◌, subst, Bool, true, false, ◌||◌, cond, Some, List, [], ◌∷◌, ◌++◌, map, ◌⊎◌, inl, inr}
use Rattle.std.specs.Prelude.{if◌then◌else◌, filter, find}
use Rattle.std.specs.List.{list_any, AllByRecursion, IsDistinct}
use Rattle.std.specs.declared.cmp.Ordering.{Ordering}
use Rattle.std.specs.Ordering.{is_lt}
use Rattle.std.proofs.lemmas.Bool.{both_ways, or_left, or_right, false≢true}
use Rattle.lists.specs.Sorted.{insert_by}

abbrev pub Among : {X : Type 0} → X → List X → Type 0
Among x [] = ⊥
Among x (y ∷ ys) = (y ≡ x) ⊎ Among x ys

pub record IsFound {X : Type 0} (p : X → Bool) (xs : List X) : Type 0 where
  pub it : X
  pub among : Among it xs
  pub passes : p it ≡ true

pub found_any : {X : Type 0} (p : X → Bool) (x : X) (xs : List X) → Among x xs → p x ≡ true → list_any p xs ≡ true
found_any p x [] m h = absurd m
found_any p x (y ∷ ys) (inl e) h = or_left (p y) (list_any p ys) (ap p e ∙ h)
found_any p x (y ∷ ys) (inr m) h = or_right (p y) (list_any p ys) (found_any p x ys m h)

pub any_found : {X : Type 0} (p : X → Bool) (xs : List X) → list_any p xs ≡ true → IsFound p xs
any_found p [] h = absurd (false≢true h)
any_found {X} p (x ∷ xs) h = by (p x) refl (any_found p xs) h
  where
    by : (b : Bool) → p x ≡ b → (list_any p xs ≡ true → IsFound p xs) → (b || list_any p xs) ≡ true → IsFound p (x ∷ xs)
    by true e rest k = record { it = x; among = inl refl; passes = e }
    by false e rest k = let found = rest k in record { it = found.it; among = inr found.among; passes = found.passes }

pub among_all : {X : Type 0} (P : X → Type 0) (x : X) (xs : List X) → AllByRecursion P xs → Among x xs → P x
among_all P x [] a m = absurd m
among_all P x (y ∷ ys) a (inl e) = subst P e a.0
among_all P x (y ∷ ys) a (inr m) = among_all P x ys a.1 m

pub all_among : {X : Type 0} (P : X → Type 0) (xs : List X) → ((x : X) → Among x xs → P x) → AllByRecursion P xs
all_among P [] h = tt
all_among P (x ∷ xs) h = (h x (inl refl), all_among P xs (λ y m. h y (inr m)))

-- ---- of what is found

pub found_among : {X : Type 0} (p : X → Bool) (xs : List X) (x : X) → find p xs ≡ Some x → Among x xs
found_among p [] x h = cc
found_among {X} p (y ∷ ys) x h =
    elim (p y) as (λ b. cond b (Some y) (find p ys) ≡ Some x → Among x (y ∷ ys)) [
      | true ↦ λ k. let same : y ≡ x = cc in inl same
      | false ↦ λ k. inr (found_among p ys x k)
    ] h

-- ---- of filters

pub among_passing : {X : Type 0} (p : X → Bool) (x : X) (xs : List X) → Among x xs → p x ≡ true → Among x (filter p xs)
among_passing p x [] m h = absurd m
among_passing {X} p x (y ∷ ys) (inl e) h = rw (ap p e ∙ h) (inl e)
among_passing {X} p x (y ∷ ys) (inr m) h = by (p y) (among_passing p x ys m h)
  where
    by : (b : Bool) → Among x (filter p ys) → Among x (cond b (y ∷ filter p ys) (filter p ys))
    by true k = inr k
    by false k = k

pub passing_among : {X : Type 0} (p : X → Bool) (x : X) (xs : List X) → Among x (filter p xs) → Among x xs × (p x ≡ true)
passing_among p x [] m = absurd m
passing_among {X} p x (y ∷ ys) m = by (p y) refl (passing_among p x ys) m
  where
    by : (b : Bool) → p y ≡ b → (Among x (filter p ys) → Among x ys × (p x ≡ true)) → Among x (cond b (y ∷ filter p ys) (filter p ys)) → Among x (y ∷ ys) × (p x ≡ true)
    by true e rest (inl k) = (inl k, ap p (sym k) ∙ e)
    by true e rest (inr k) = let both = rest k in (inr both.0, both.1)
    by false e rest k = let both = rest k in (inr both.0, both.1)

-- ---- of two lists in a row

pub among_first : {X : Type 0} (x : X) (xs ys : List X) → Among x xs → Among x (xs ++ ys)
among_first x [] ys m = absurd m
among_first x (z ∷ xs) ys (inl e) = inl e
among_first x (z ∷ xs) ys (inr m) = inr (among_first x xs ys m)

pub among_second : {X : Type 0} (x : X) (xs ys : List X) → Among x ys → Among x (xs ++ ys)
among_second x [] ys m = m
among_second x (z ∷ xs) ys m = inr (among_second x xs ys m)

pub among_either : {X : Type 0} (x : X) (xs ys : List X) → Among x (xs ++ ys) → Among x xs ⊎ Among x ys
among_either x [] ys m = inr m
among_either x (z ∷ xs) ys (inl e) = inl (inl e)
among_either x (z ∷ xs) ys (inr m) = by (among_either x xs ys m)
  where
    by : Among x xs ⊎ Among x ys → Among x (z ∷ xs) ⊎ Among x ys
    by (inl k) = inl (inr k)
    by (inr k) = inr k

-- ---- of one that is put in, and of a map

pub among_inserted : {X : Type 0} (cmp : X → X → Ordering) (x y : X) (ys : List X) → Among x (insert_by cmp y ys) → (y ≡ x) ⊎ Among x ys
among_inserted cmp x y [] m = m
among_inserted {X} cmp x y (z ∷ zs) m = by (is_lt (cmp y z)) (among_inserted cmp x y zs) m
  where
    by : (b : Bool) → (Among x (insert_by cmp y zs) → (y ≡ x) ⊎ Among x zs) → Among x (if b then y ∷ z ∷ zs else z ∷ insert_by cmp y zs) → (y ≡ x) ⊎ Among x (z ∷ zs)
    by true rest k = k
    by false rest (inl e) = inr (inl e)
    by false rest (inr k) = turned (rest k)
      where
        turned : (y ≡ x) ⊎ Among x zs → (y ≡ x) ⊎ Among x (z ∷ zs)
        turned (inl e) = inl e
        turned (inr j) = inr (inr j)

pub record IsMapped {X : Type 0} (f : X → X) (x : X) (xs : List X) : Type 0 where
  pub it : X
  pub among : Among it xs
  pub is : f it ≡ x

pub among_mapped : {X : Type 0} (f : X → X) (x : X) (xs : List X) → Among x (map f xs) → IsMapped f x xs
among_mapped f x [] m = absurd m
among_mapped f x (y ∷ ys) (inl e) = record { it = y; among = inl refl; is = e }
among_mapped f x (y ∷ ys) (inr m) = let rest = among_mapped f x ys m in record { it = rest.it; among = inr rest.among; is = rest.is }

-- ---- where no two are alike, two that are alike are one

pub one_alike : {X : Type 0} (same : X → X → Bool) → ((x y : X) → same x y ≡ same y x) → (xs : List X) → IsDistinct same xs
    → (x y : X) → Among x xs → Among y xs → same x y ≡ true → x ≡ y
unfolding IsDistinct
one_alike same turn [] d x y m k h = absurd m
one_alike same turn (z ∷ zs) d x y (inl e) (inl f) h = sym e ∙ f
one_alike same turn (z ∷ zs) d x y (inl e) (inr k) h =
    absurd (both_ways (same x y) (subst (λ w. same w y ≡ false) e (among_all (λ w. same z w ≡ false) y zs d.0 k)) h)
one_alike same turn (z ∷ zs) d x y (inr m) (inl f) h =
    absurd (both_ways (same x y) (turn x y ∙ subst (λ w. same w x ≡ false) f (among_all (λ w. same z w ≡ false) x zs d.0 m)) h)
one_alike same turn (z ∷ zs) d x y (inr m) (inr k) h = one_alike same turn zs d.1 x y m k h

-- and each is found by itself
pub found_by_itself : {X : Type 0} (same : X → X → Bool) → ((x : X) → same x x ≡ true) → ((x y : X) → same x y ≡ same y x)
    → (xs : List X) → IsDistinct same xs → (x : X) → Among x xs → find (same x) xs ≡ Some x
unfolding IsDistinct
found_by_itself same self turn [] d x m = absurd m
found_by_itself same self turn (y ∷ ys) d x (inl e) = subst (λ z. find (same z) (y ∷ ys) ≡ Some z) e (rw (self y) refl)
found_by_itself same self turn (y ∷ ys) d x (inr m) =
    let other : same x y ≡ false = turn x y ∙ among_all (λ z. same y z ≡ false) x ys d.0 m in
    rw other (found_by_itself same self turn ys d.1 x m)
