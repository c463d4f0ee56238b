-- What one comparison tells of the values before and after.
use Rattle.std.proofs.Common.{◌≡◌, refl, ap, ◌∙◌, ℕ, suc, ◌≤◌, Some, List, length, get_or, arith}
use Rattle.std.specs.List.{AllWithin, HoldsAt, slice_get}
use Rattle.std.specs.List.Sorted.{IsNonDecreasingBy}
use Rattle.std.specs.Ordering.{ordering_index}
use Rattle.std.specs.declared.cmp.Ordering.{Ordering}
use Rattle.std.specs.declared.cmp.Ordering.TheVariants.{Less, Equal, Greater}
use Rattle.std.proofs.lemmas.Option.{get_or_from_slice_get, slice_get_within}

least : (o : Ordering) → ordering_index o ≤ 0 → o ≡ Less
least Less h = refl
least Equal h = absurd (omega (arith, h))
least Greater h = absurd (omega (arith, h))

greatest : (o : Ordering) → 2 ≤ ordering_index o → o ≡ Greater
greatest Less h = absurd (omega (arith, h))
greatest Equal h = absurd (omega (arith, h))
greatest Greater h = refl

module _ {X : Type 0} (ord : X → Ordering) (xs : List X) (middle : ℕ) (x : X) (got : slice_get xs middle ≡ Some x) where
  pub below : ord x ≡ Less → (end : ℕ) → end ≤ suc middle → IsNonDecreasingBy (λ y. ordering_index (ord y)) xs → AllWithin (λ y. ord y ≡ Less) xs 0 end
  below less end h rising k d low high =
      let here : ordering_index (ord (get_or xs middle d)) ≡ 0 = ap (λ y. ordering_index (ord y)) (get_or_from_slice_get xs middle x d got) ∙ ap ordering_index less in
      let rises = rising k middle d (omega (arith, h, high)) (slice_get_within xs middle x got) in
      least (ord (get_or xs k d)) (omega (arith, here, rises))

  pub above : ord x ≡ Greater → IsNonDecreasingBy (λ y. ordering_index (ord y)) xs → AllWithin (λ y. ord y ≡ Greater) xs middle (length xs)
  above greater rising k d low high =
      let here : ordering_index (ord (get_or xs middle d)) ≡ 2 = ap (λ y. ordering_index (ord y)) (get_or_from_slice_get xs middle x d got) ∙ ap ordering_index greater in
      let rises = rising middle k d low high in
      greatest (ord (get_or xs k d)) (omega (arith, here, rises))

  pub found : ord x ≡ Equal → HoldsAt (λ y. ord y ≡ Equal) xs middle
  found equal d = ap ord (get_or_from_slice_get xs middle x d got) ∙ equal
