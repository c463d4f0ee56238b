-- Two lists in strict order with the same elements are one.
use Rattle.std.proofs.Common.{◌≡◌, refl, sym, ap, ◌∙◌, subst, List, [], ◌∷◌, ◌⊎◌, inl, inr}
use Rattle.std.specs.List.{AllByRecursion}
use Rattle.std.specs.List.Sorted.{IsStrictlySortedBy, IsPermutation}
use Rattle.std.specs.declared.cmp.Ordering.{Ordering}
use Rattle.std.specs.declared.cmp.Ordering.TheVariants.{Less, Equal}
use Rattle.std.specs.Ordering.{ordering_reverse}
use Rattle.std.specs.Cmp.{IsTotalOrder}
use Rattle.std.proofs.lemmas.Cmp.{tied_itself}
use Rattle.std.proofs.lemmas.List.Elements.{All-from_recursion, recursion_from_All}
use Rattle.std.proofs.lemmas.List.Sorted.{All-permutation, IsPermutation-sym}

module _ {X : Type 0} where
  abbrev In : List X → X → Type 0
  In [] x = ⊥
  In (y ∷ ys) x = (x ≡ y) ⊎ In ys x

  all_within : (y : X) (ys xs : List X) → AllByRecursion (In ys) xs → AllByRecursion (In (y ∷ ys)) xs
  all_within y ys [] a = tt
  all_within y ys (x ∷ xs) a = (inr a.0, all_within y ys xs a.1)

  all_in : (xs : List X) → AllByRecursion (In xs) xs
  all_in [] = tt
  all_in (x ∷ xs) = (inl refl, all_within x xs xs (all_in xs))

  of_in : (P : X → Type 0) (xs : List X) (x : X) → AllByRecursion P xs → In xs x → P x
  of_in P [] x a i = absurd i
  of_in P (y ∷ ys) x a i = elim i [ inl e ↦ subst P (sym e) a.0 | inr j ↦ of_in P ys x a.1 j ]

  permuted_in : (xs ys : List X) → IsPermutation xs ys → AllByRecursion (In ys) xs
  permuted_in xs ys p =
      recursion_from_All (In ys) xs (All-permutation (In ys) ys xs (IsPermutation-sym xs ys p) (All-from_recursion (In ys) ys (all_in ys)))

  module _ (cmp : X → X → Ordering) (total : IsTotalOrder cmp) where
    no_turn : (x y : X) → cmp x y ≡ Less → cmp y x ≡ Less → ⊥
    no_turn x y h k = let bad : Less ≡ ordering_reverse Less = sym h ∙ total.antisymm x y ∙ ap ordering_reverse k in cc

    -- what comes after x is none of y, where x is y
    rest_in : (x y : X) (ys zs : List X) → x ≡ y → AllByRecursion (λ z. cmp x z ≡ Less) zs → AllByRecursion (In (y ∷ ys)) zs
        → AllByRecursion (In ys) zs
    rest_in x y ys [] same above a = tt
    rest_in x y ys (z ∷ zs) same above a = (by a.0, rest_in x y ys zs same above.1 a.1)
      where
        by : In (y ∷ ys) z → In ys z
        by (inl e) =
            let tied : cmp x z ≡ Equal = ap (cmp x) (e ∙ sym same) ∙ tied_itself total x in
            let bad : Less ≡ Equal = sym above.0 ∙ tied in
            absurd cc
        by (inr i) = i

    one_from : (xs ys : List X) → IsStrictlySortedBy cmp xs → IsStrictlySortedBy cmp ys → AllByRecursion (In ys) xs
        → AllByRecursion (In xs) ys → xs ≡ ys
    unfolding IsStrictlySortedBy
    one_from [] [] s t a b = refl
    one_from [] (y ∷ ys) s t a b = absurd b.0
    one_from (x ∷ xs) [] s t a b = absurd a.0
    one_from (x ∷ xs) (y ∷ ys) s t a b =
        let same = first a.0 b.0 in
        λ i. same i ∷ one_from xs ys s.1 t.1 (rest_in x y ys xs same s.0 a.1) (rest_in y x xs ys (sym same) t.0 b.1) i
      where
        first : In (y ∷ ys) x → In (x ∷ xs) y → x ≡ y
        first (inl e) j = e
        first (inr i) (inl e) = sym e
        first (inr i) (inr j) =
            absurd (no_turn x y (of_in (λ z. cmp x z ≡ Less) xs y s.0 j) (of_in (λ z. cmp y z ≡ Less) ys x t.0 i))

    pub one_order : (xs ys : List X) → IsStrictlySortedBy cmp xs → IsStrictlySortedBy cmp ys → IsPermutation xs ys → xs ≡ ys
    one_order xs ys s t p =
        one_from xs ys s t (permuted_in xs ys p) (permuted_in ys xs (IsPermutation-sym xs ys p))
