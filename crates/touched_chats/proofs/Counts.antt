-- Sums over the elements that pass tests, and how many are found, each by one of different names.
use Rattle.std.proofs.Common.{◌≡◌, refl, sym, ◌∙◌, ℕ, ◌+◌, ◌≤◌, Bool, true, false, not, ◌||◌, cond, Option, Some, None, is_some, List, [], ◌∷◌, length, arith, inl, inr}
use Rattle.std.specs.Prelude.{filter, find, sum_by}
use Rattle.std.specs.List.{list_any, AllByRecursion, IsDistinct}
use Rattle.std.specs.Option.{option_map_or}
use Rattle.std.proofs.lemmas.Bool.{both_ways, false_from_ne_true, false≢true}
use Rattle.std.proofs.lemmas.List.Sums.{sum_by-cons}
use Rattle.lists.proofs.Inserts.{list_any-found}
use Rattle.lists.proofs.OneMore.{none_among}
use Rattle.touched_chats.proofs.Among.{Among, all_among, among_all}

-- ---- a sum over the elements that pass one of two tests, no element both

sum_filter : {X : Type 0} (f : X → ℕ) (b : Bool) (x : X) (xs : List X) → sum_by f (cond b (x ∷ xs) xs) ≡ cond b (f x) 0 + sum_by f xs
sum_filter f true x xs = sum_by-cons f x xs
sum_filter f false x xs = omega arith

pub apart_sum : {X : Type 0} (f : X → ℕ) (p q : X → Bool) → ((x : X) → p x ≡ true → q x ≡ false) → (xs : List X)
    → sum_by f (filter (λ x. p x || q x) xs) ≡ sum_by f (filter p xs) + sum_by f (filter q xs)
apart_sum f p q h [] = refl
apart_sum {X} f p q h (x ∷ xs) =
    let rest = apart_sum f p q h xs in
    let one = sum_filter f (p x || q x) x (filter (λ y. p y || q y) xs) in
    let two = sum_filter f (p x) x (filter p xs) in
    let three = sum_filter f (q x) x (filter q xs) in
    let here : cond (p x || q x) (f x) 0 ≡ cond (p x) (f x) 0 + cond (q x) (f x) 0 = alone (p x) (q x) (f x) (h x) in
    omega (arith, rest, one, two, three, here)
  where
    alone : (b c : Bool) (n : ℕ) → (b ≡ true → c ≡ false) → cond (b || c) n 0 ≡ cond b n 0 + cond c n 0
    alone true c n g = rw (g refl) (omega arith)
    alone false c n g = omega arith

-- ---- the elements that pass a test, and those that fail it

pub split_sum : {X : Type 0} (f : X → ℕ) (p : X → Bool) (xs : List X)
    → sum_by f xs ≡ sum_by f (filter p xs) + sum_by f (filter (λ x. not (p x)) xs)
split_sum f p [] = refl
split_sum {X} f p (x ∷ xs) =
    let rest = split_sum f p xs in
    let passed = sum_filter f (p x) x (filter p xs) in
    let failed = sum_filter f (not (p x)) x (filter (λ y. not (p y)) xs) in
    omega (arith, rest, passed, failed, sum_by-cons f x xs, either (p x))
  where
    either : (b : Bool) → f x ≡ cond b (f x) 0 + cond (not b) (f x) 0
    either true = omega arith
    either false = omega arith

-- ---- more passes give more

pub sum_more : {X : Type 0} (f : X → ℕ) (p q : X → Bool) (xs : List X) → ((x : X) → Among x xs → p x ≡ true → q x ≡ true)
    → sum_by f (filter p xs) ≤ sum_by f (filter q xs)
sum_more f p q [] h = omega arith
sum_more f p q (x ∷ xs) h =
    let rest = sum_more f p q xs (λ y m. h y (inr m)) in
    let one = sum_filter f (p x) x (filter p xs) in
    let two = sum_filter f (q x) x (filter q xs) in
    let here : cond (p x) (f x) 0 ≤ cond (q x) (f x) 0 = more (p x) (q x) (f x) (h x (inl refl)) in
    omega (arith, rest, one, two, here)
  where
    more : (b c : Bool) (n : ℕ) → (b ≡ true → c ≡ true) → cond b n 0 ≤ cond c n 0
    more true c n g = rw (g refl) (omega arith)
    more false c n g = omega arith

-- ---- elements that count alike

pub alike_sum : {X : Type 0} (f g : X → ℕ) (xs : List X) → AllByRecursion (λ x. f x ≡ g x) xs → sum_by f xs ≡ sum_by g xs
alike_sum f g [] a = refl
alike_sum f g (x ∷ xs) a =
    let here = a.0 in
    let rest = alike_sum f g xs a.1 in
    let left = sum_by-cons f x xs in
    let right = sum_by-cons g x xs in
    omega (arith, here, rest, left, right)

-- ---- the number of elements is a sum

pub ones : {X : Type 0} (xs : List X) → sum_by (λ x. 1) xs ≡ length xs
ones [] = refl
ones (x ∷ xs) = let first = sum_by-cons (λ y. 1) x xs in let rest = ones xs in omega (arith, first, rest)

pub sum_of_both : {X : Type 0} (f g : X → ℕ) (xs : List X) → sum_by (λ x. f x + g x) xs ≡ sum_by f xs + sum_by g xs
sum_of_both f g [] = refl
sum_of_both f g (x ∷ xs) =
    let rest = sum_of_both f g xs in
    let both = sum_by-cons (λ x. f x + g x) x xs in
    let one = sum_by-cons f x xs in
    let other = sum_by-cons g x xs in
    omega (arith, rest, both, one, other)

-- ---- what has different names is found by no more than one

found_one : {X : Type 0} (o : Option X) → is_some o ≡ true → ◌≡◌ {A = ℕ} (option_map_or (λ x. 1) o 0) 1
found_one None h = absurd (false≢true h)
found_one (Some x) h = refl

-- the first that passes counts no more than all that do
first_counts : {X : Type 0} (f : X → ℕ) (p : X → Bool) (xs : List X) → option_map_or f (find p xs) 0 ≤ sum_by f (filter p xs)
first_counts f p [] = omega arith
first_counts {X} f p (x ∷ xs) = by (p x) (first_counts f p xs)
  where
    by : (b : Bool) → option_map_or f (find p xs) 0 ≤ sum_by f (filter p xs)
        → option_map_or f (cond b (Some x) (find p xs)) 0 ≤ sum_by f (cond b (x ∷ filter p xs) (filter p xs))
    by true rest = let first = sum_by-cons f x (filter p xs) in omega (arith, first)
    by false rest = rest

-- one of these names has it
abbrev pub is_had : {A X : Type 0} → (A → X → Bool) → List A → X → Bool
is_had has names x = list_any (λ a. has a x) names

module _ {A X : Type 0} (same : A → A → Bool) (has : A → X → Bool) (one : (a b : A) (x : X) → has a x ≡ true → has b x ≡ true → same a b ≡ true) where
  had_alone : (a : A) (names : List A) → AllByRecursion (λ b. same a b ≡ false) names → (x : X) → has a x ≡ true → is_had has names x ≡ false
  had_alone a names apart x h =
      none_among (λ b. has b x) names
      (all_among (λ b. has b x ≡ false) names (λ b m. false_from_ne_true (has b x) (λ k. differ b m (one a b x h k))))
    where
      differ : (b : A) → Among b names → same a b ≡ true → ⊥
      differ b m e = both_ways (same a b) (among_all (λ b. same a b ≡ false) b names apart m) e

  pub found_sum : (f : X → ℕ) (xs : List X) (names : List A) → IsDistinct same names
      → sum_by (λ a. option_map_or f (find (has a) xs) 0) names ≤ sum_by f (filter (is_had has names) xs)
  unfolding IsDistinct
  found_sum f xs [] d = omega arith
  found_sum f xs (a ∷ names) d =
      let rest = found_sum f xs names d.1 in
      let first = first_counts f (has a) xs in
      let both = apart_sum f (has a) (is_had has names) (had_alone a names d.0) xs in
      let summed = sum_by-cons (λ a. option_map_or f (find (has a) xs) 0) a names in
      omega (arith, rest, first, both, summed)

  each_found : (xs : List X) (names : List A) → AllByRecursion (λ a. list_any (has a) xs ≡ true) names
      → sum_by (λ a. option_map_or (λ x. 1) (find (has a) xs) 0) names ≡ length names
  each_found xs [] a = refl
  each_found xs (name ∷ names) a =
      let rest = each_found xs names a.1 in
      let first = found_one (find (has name) xs) (sym (list_any-found (has name) xs) ∙ a.0) in
      let summed = sum_by-cons (λ a. option_map_or (λ x. 1) (find (has a) xs) 0) name names in
      omega (arith, rest, first, summed)

  -- different names of which each has one are no more than those that they have
  pub found_count : (xs : List X) (names : List A) → IsDistinct same names → AllByRecursion (λ a. list_any (has a) xs ≡ true) names
      → length names ≤ length (filter (is_had has names) xs)
  found_count xs names d a =
      let found = found_sum (λ x. 1) xs names d in
      let each = each_found xs names a in
      let counted = ones (filter (is_had has names) xs) in
      omega (arith, found, each, counted)
