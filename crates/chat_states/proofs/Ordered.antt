-- Lists in strict order, by what some key of each element is: where one more goes, and when two are one.
use Rattle.std.proofs.Common.{◌≡◌, ◌≢◌, refl, sym, ap, ◌∙◌, subst, Bool, true, false, cond, List, [], ◌∷◌, ◌++◌, map, ◌⊎◌, inl, inr}
use Rattle.std.specs.List.{AllByRecursion, filter}
use Rattle.std.specs.List.Sorted.{IsStrictlySortedBy}
use Rattle.std.specs.declared.cmp.Ordering.{Ordering}
use Rattle.std.specs.declared.cmp.Ordering.TheVariants.{Less, Equal, Greater}
use Rattle.std.specs.Ordering.{is_lt, ordering_reverse}
use Rattle.std.specs.Cmp.{IsTotalOrder}
use Rattle.std.proofs.lemmas.Bool.{cases_Bool, false≢true}

module _ {X K : Type 0} (key : X → K) (cmp : K → K → Ordering) (total : IsTotalOrder cmp) where
  abbrev pub Rise : List X → Type 0
  Rise xs = IsStrictlySortedBy cmp (map key xs)

  abbrev Above : K → List X → Type 0
  Above k xs = AllByRecursion (λ l. cmp k l ≡ Less) (map key xs)

  turned : (k l : K) (o : Ordering) → cmp k l ≡ o → cmp l k ≡ ordering_reverse o
  turned k l o e = total.antisymm l k ∙ ap ordering_reverse e

  all_above : (k l : K) (xs : List X) → cmp k l ≡ Less → Above l xs → Above k xs
  all_above k l [] h a = tt
  all_above k l (x ∷ xs) h a = (total.trans k l (key x) h a.0, all_above k l xs h a.1)

  above_with : (k : K) (x : X) (before after : List X) → cmp k (key x) ≡ Less → Above k (before ++ after) → Above k (before ++ x ∷ after)
  above_with k x [] after h a = (h, a)
  above_with k x (b ∷ before) after h a = (a.0, above_with k x before after h a.1)

  -- ---- where one more goes

  -- between what is before it and what is after it
  pub record HasRoom (x : X) (xs : List X) : Type 0 where
    pub before : List X
    pub after : List X
    pub is : xs ≡ before ++ after
    pub order : Rise (before ++ x ∷ after)

  -- it goes where it ties with none
  pub room : (x : X) (xs : List X) → AllByRecursion (λ y. cmp (key x) (key y) ≢ Equal) xs → Rise xs → HasRoom x xs
  unfolding IsStrictlySortedBy
  room x [] none rise = record { before = []; after = []; is = refl; order = (tt, tt) }
  room x (y ∷ ys) none rise =
      elim (cmp (key x) (key y)) as (λ o. cmp (key x) (key y) ≡ o → HasRoom x (y ∷ ys)) [
        | Less ↦ λ e. record { before = []; after = y ∷ ys; is = refl; order = ((e, all_above (key x) (key y) ys e rise.0), rise) }
        | Equal ↦ λ e. absurd (none.0 e)
        | Greater ↦ λ e.
            let later = room x ys none.1 rise.1 in
            record {
              before = y ∷ later.before;
              after = later.after;
              is = ap (λ zs. y ∷ zs) later.is;
              order = (above_with (key y) x later.before later.after (turned (key x) (key y) Greater e) (subst (Above (key y)) later.is rise.0), later.order);
            }
      ] refl

  -- ---- when two are one

  of_passing : (p : X → Bool) (P : K → Type 0) (xs : List X) (x : X) (rest : List X) → AllByRecursion P (map key xs) → filter p xs ≡ x ∷ rest → P (key x)
  of_passing p P [] x rest a h = cc
  of_passing p P (y ∷ ys) x rest a h =
      elim (p y) as (λ b. cond b (y ∷ filter p ys) (filter p ys) ≡ x ∷ rest → P (key x)) [
        | true ↦ λ e. let same : y ≡ x = cc in subst (λ z. P (key z)) same a.0
        | false ↦ λ e. of_passing p P ys x rest a.1 e
      ] h

  no_turn : (k l : K) → cmp k l ≡ Less → cmp l k ≡ Less → ⊥
  no_turn k l h g = let bad : Less ≡ Greater = sym g ∙ turned k l Less h in false≢true (sym (ap is_lt bad))

  module _ {I : Type 0} (p : I → X → Bool) (id : X → I) (itself : (x : X) → p (id x) x ≡ true) where
    first : (x : X) (xs : List X) → filter (p (id x)) (x ∷ xs) ≡ x ∷ filter (p (id x)) xs
    first x xs = ap (λ b. cond b (x ∷ filter (p (id x)) xs) (filter (p (id x)) xs)) (itself x)

    -- the first of one list is that of the other, or after that
    first_of : (x y : X) (xs ys : List X) → filter (p (id x)) (x ∷ xs) ≡ filter (p (id x)) (y ∷ ys) → Above (key y) ys → (x ≡ y) ⊎ (cmp (key y) (key x) ≡ Less)
    first_of x y xs ys same above =
        elim (cases_Bool (p (id x) y)) [
          | inl passes ↦
              let firsts : x ∷ filter (p (id x)) xs ≡ y ∷ filter (p (id x)) ys = sym (first x xs) ∙ same ∙ ap (λ b. cond b (y ∷ filter (p (id x)) ys) (filter (p (id x)) ys)) passes in
              inl cc
          | inr fails ↦
              let later : filter (p (id x)) ys ≡ x ∷ filter (p (id x)) xs = sym (sym (first x xs) ∙ same ∙ ap (λ b. cond b (y ∷ filter (p (id x)) ys) (filter (p (id x)) ys)) fails) in
              inr (of_passing (p (id x)) (λ k. cmp (key y) k ≡ Less) ys x (filter (p (id x)) xs) above later)
        ]

    tails : (x y : X) (us vs : List X) (b c : Bool) → b ≡ c → cond b (x ∷ us) us ≡ cond c (y ∷ vs) vs → us ≡ vs
    tails x y us vs true true e h = cc
    tails x y us vs false false e h = h
    tails x y us vs true false e h = absurd (false≢true (sym e))
    tails x y us vs false true e h = absurd (false≢true e)

    -- lists of which the same pass each of these tests are one, where each element passes its own
    pub one_from : (xs ys : List X) → Rise xs → Rise ys → ((i : I) → filter (p i) xs ≡ filter (p i) ys) → xs ≡ ys
    unfolding IsStrictlySortedBy
    one_from [] [] r s same = refl
    one_from [] (y ∷ ys) r s same = let bad : [] ≡ y ∷ filter (p (id y)) ys = same (id y) ∙ first y ys in cc
    one_from (x ∷ xs) [] r s same = let bad : x ∷ filter (p (id x)) xs ≡ [] = sym (first x xs) ∙ same (id x) in cc
    one_from (x ∷ xs) (y ∷ ys) r s same =
        let here : x ≡ y = one (first_of x y xs ys (same (id x)) s.0) (first_of y x ys xs (sym (same (id y))) r.0) in
        let rest = one_from xs ys r.1 s.1 (λ i. tails x y (filter (p i) xs) (filter (p i) ys) (p i x) (p i y) (ap (p i) here) (same i)) in
        λ k. here k ∷ rest k
      where
        one : (x ≡ y) ⊎ (cmp (key y) (key x) ≡ Less) → (y ≡ x) ⊎ (cmp (key x) (key y) ≡ Less) → x ≡ y
        one (inl e) h = e
        one (inr g) (inl e) = sym e
        one (inr g) (inr h) = absurd (no_turn (key x) (key y) h g)
