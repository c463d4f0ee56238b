-- The first bytes of two lists tell which comes first, where they differ.
use Rattle.std.proofs.Common.{◌≡◌, ◌≢◌, refl, sym, ap, ◌∙◌, ℕ, zero, suc, ◌+◌, ◌*◌, ◌-◌, ◌<◌, ◌≤◌, ◌⊎◌, inl, inr, List, [], ◌∷◌, get_or, arith}
use Rattle.std.proofs.Math.Nat.{mul_assoc, mul_comm}
use Rattle.std.specs.Cmp.Lexicographic.{slice_cmp}
use Rattle.std.specs.Ordering.{nat_cmp, ordering_then}
use Rattle.std.specs.declared.cmp.Ordering.{Ordering}
use Rattle.std.specs.declared.cmp.Ordering.TheVariants.{Less, Equal, Greater}
use Rattle.std.proofs.lemmas.Bool.Decides.{nat_tests}
use Rattle.std.proofs.lemmas.Nat.{mul-add-lt}
use Rattle.std.proofs.lemmas.Cmp.{by_ranked, ranked}
use Rattle.kit.specs.Fronts.{front, places}

abbrev pub AreBytes : List ℕ → Type 0
AreBytes bytes = (i : ℕ) → get_or bytes i 0 < 256

tail : (b : ℕ) (bytes : List ℕ) → AreBytes (b ∷ bytes) → AreBytes bytes
tail b bytes fit i = fit (suc i)

-- one byte more
pub more : (n : ℕ) (bytes : List ℕ) → front (suc n) bytes ≡ front n bytes * 256 + get_or bytes n 0
more zero [] = refl
more zero (b ∷ bytes) = omega arith
more (suc n) [] = refl
more (suc n) (b ∷ bytes) =
    let rest = more n bytes in
    let first : b * (places n * 256) ≡ (b * places n) * 256 = sym (mul_assoc b (places n) 256) in
    omega arith

pub below : (n : ℕ) (bytes : List ℕ) → AreBytes bytes → front n bytes < places n
below zero bytes fit = omega arith
below (suc n) [] fit = let rest = below n [] (λ i. omega arith) in omega arith
below (suc n) (b ∷ bytes) fit = mul-add-lt b (places n) (front n bytes) 256 (fit 0) (below n bytes (tail b bytes fit))

some_places : (n : ℕ) → 0 < places n
some_places zero = omega arith
some_places (suc n) = let rest = some_places n in omega arith

-- fewer bytes are a smaller number
places_rise : (n k : ℕ) → places n ≤ places (k + n)
places_rise n zero = let same : 0 + n ≡ n = omega arith in let e = ap places same in omega arith
places_rise n (suc k) =
    let rest = places_rise n k in
    let next : suc k + n ≡ suc (k + n) = omega arith in
    let e = ap places next in
    let some = some_places (k + n) in
    omega arith

-- ---- a comparison

-- of two that differ in the first byte
apart : (n x y : ℕ) (xs ys : List ℕ) → AreBytes xs → x < y → front (suc n) (x ∷ xs) < front (suc n) (y ∷ ys)
apart n x y xs ys fit h =
    let most = mul-add-lt x (places n) (front n xs) y h (below n xs fit) in
    let turn : places n * y ≡ y * places n = mul_comm (places n) y in
    omega arith

is_Less : (x y : ℕ) → x < y → nat_cmp x y ≡ Less
is_Less x y h = grind (arith, nat_tests)

is_Greater : (x y : ℕ) → y < x → nat_cmp x y ≡ Greater
is_Greater x y h = grind (arith, nat_tests)

is_Equal : (x y : ℕ) → x ≡ y → nat_cmp x y ≡ Equal
is_Equal x y h = grind (arith, nat_tests)

-- the same first byte on either side
alike : (m x y : ℕ) → nat_cmp (m + x) (m + y) ≡ nat_cmp x y
alike m x y =
    by_ranked (x < y) (x ≡ y) (y < x) (nat_cmp x y) (ranked x y (nat_cmp x y) refl)
    (λ e h. is_Less (m + x) (m + y) (omega arith) ∙ sym e)
    (λ e h. is_Equal (m + x) (m + y) (omega arith) ∙ sym e)
    (λ e h. is_Greater (m + x) (m + y) (omega arith) ∙ sym e)

settled : (n : ℕ) (xs ys : List ℕ) → AreBytes xs → AreBytes ys
    → (nat_cmp (front n xs) (front n ys) ≡ Equal) ⊎ (slice_cmp nat_cmp xs ys ≡ nat_cmp (front n xs) (front n ys))
settled zero xs ys fit_xs fit_ys = inl refl
settled (suc n) [] [] fit_xs fit_ys = inl refl
settled (suc n) [] (y ∷ ys) fit_xs fit_ys =
    let number : ℕ = front (suc n) (y ∷ ys) in
    by_ranked (0 < number) (0 ≡ number) (number < 0) (nat_cmp 0 number) (ranked 0 number (nat_cmp 0 number) refl)
    (λ e h. inr (sym e))
    (λ e h. inl e)
    (λ e h. absurd (omega arith))
settled (suc n) (x ∷ xs) [] fit_xs fit_ys =
    let number : ℕ = front (suc n) (x ∷ xs) in
    by_ranked (number < 0) (number ≡ 0) (0 < number) (nat_cmp number 0) (ranked number 0 (nat_cmp number 0) refl)
    (λ e h. absurd (omega arith))
    (λ e h. inl e)
    (λ e h. inr (sym e))
settled (suc n) (x ∷ xs) (y ∷ ys) fit_xs fit_ys =
    by_ranked (x < y) (x ≡ y) (y < x) (nat_cmp x y) (ranked x y (nat_cmp x y) refl)
    (λ e h. inr (ap (λ o. ordering_then o (slice_cmp nat_cmp xs ys)) e ∙ sym (is_Less (front (suc n) (x ∷ xs)) (front (suc n) (y ∷ ys)) (apart n x y xs ys (tail x xs fit_xs) h))))
    (λ e h. same e h (settled n xs ys (tail x xs fit_xs) (tail y ys fit_ys)))
    (λ e h. inr (ap (λ o. ordering_then o (slice_cmp nat_cmp xs ys)) e ∙ sym (is_Greater (front (suc n) (x ∷ xs)) (front (suc n) (y ∷ ys)) (apart n y x ys xs (tail y ys fit_ys) h))))
  where
    rest : x ≡ y → nat_cmp (front (suc n) (x ∷ xs)) (front (suc n) (y ∷ ys)) ≡ nat_cmp (front n xs) (front n ys)
    rest h = ap (λ k. nat_cmp (x * places n + front n xs) (k * places n + front n ys)) (sym h) ∙ alike (x * places n) (front n xs) (front n ys)

    same : nat_cmp x y ≡ Equal → x ≡ y → (nat_cmp (front n xs) (front n ys) ≡ Equal) ⊎ (slice_cmp nat_cmp xs ys ≡ nat_cmp (front n xs) (front n ys))
        → (nat_cmp (front (suc n) (x ∷ xs)) (front (suc n) (y ∷ ys)) ≡ Equal) ⊎ (slice_cmp nat_cmp (x ∷ xs) (y ∷ ys) ≡ nat_cmp (front (suc n) (x ∷ xs)) (front (suc n) (y ∷ ys)))
    same e h (inl tie) = inl (rest h ∙ tie)
    same e h (inr is) = inr (ap (λ o. ordering_then o (slice_cmp nat_cmp xs ys)) e ∙ is ∙ sym (rest h))

-- so where the numbers differ they tell the order
pub by_front : (o : Ordering) (xs ys : List ℕ) → AreBytes xs → AreBytes ys → o ≡ nat_cmp (front 8 xs) (front 8 ys) → o ≢ Equal
    → o ≡ slice_cmp nat_cmp xs ys
by_front o xs ys fit_xs fit_ys is differ = by (settled 8 xs ys fit_xs fit_ys)
  where
    by : (nat_cmp (front 8 xs) (front 8 ys) ≡ Equal) ⊎ (slice_cmp nat_cmp xs ys ≡ nat_cmp (front 8 xs) (front 8 ys)) → o ≡ slice_cmp nat_cmp xs ys
    by (inl tie) = absurd (differ (is ∙ tie))
    by (inr told) = is ∙ sym told

-- ---- the number fits

pub fits : (n : ℕ) (bytes : List ℕ) → AreBytes bytes → n < 8 → front n bytes * 256 + get_or bytes n 0 < 18446744073709551616
fits n bytes fit few =
    let most = below (suc n) bytes fit in
    let next = more n bytes in
    let rise = places_rise (suc n) (7 - n) in
    let last : (7 - n) + suc n ≡ 8 = omega arith in
    let all = ap places last in
    let value : places 8 ≡ 18446744073709551616 = refl in
    omega arith
