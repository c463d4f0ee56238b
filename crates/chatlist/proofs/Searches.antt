-- A binary search in a sorted list, and an insert at the index that it finds.
use Rattle.std.proofs.Common.{◌≡◌, ◌≢◌, ◌<◌, refl, sym, ap, ◌∙◌, ℕ, zero, suc, true, false, List, [], ◌∷◌, length, take, drop, get_or, arith}
use Rattle.std.specs.List.{AllByRecursion, insert}
use Rattle.std.specs.List.Sorted.{IsStrictlySortedBy}
use Rattle.std.specs.declared.cmp.Ordering.{Ordering}
use Rattle.std.specs.declared.cmp.Ordering.TheVariants.{Less, Equal, Greater}
use Rattle.std.specs.Cmp.{IsTotalOrder}
use Rattle.std.specs.Ordering.{is_lt}
use Rattle.std.proofs.lemmas.Bool.{both_ways, false≢true}
use Rattle.lists.specs.Sorted.{insert_by}
use Rattle.lists.proofs.Rising.{apart, never_back}

is_Less : (o : Ordering) → is_lt o ≡ true → o ≡ Less
is_Less Less e = refl
is_Less Equal e = absurd (false≢true e)
is_Less Greater e = absurd (false≢true e)

module _ {X : Type 0} (cmp : X → X → Ordering) (total : IsTotalOrder cmp) where
  -- each comes before p, or none does
  abbrev pub All_before : X → List X → Type 0
  All_before p ds = AllByRecursion (λ d. is_lt (cmp d p) ≡ true) ds

  abbrev pub None_before : X → List X → Type 0
  None_before p ds = AllByRecursion (λ d. is_lt (cmp d p) ≡ false) ds

  -- what comes before one that comes before p does too
  through : (d e p : X) → cmp d e ≡ Less → is_lt (cmp e p) ≡ true → is_lt (cmp d p) ≡ true
  through d e p below h = ap is_lt (total.trans d e p below (is_Less (cmp e p) h))

  at : (P : X → Type 0) (ds : List X) (i : ℕ) (d : X) → AllByRecursion P ds → i < length ds → P (get_or ds i d)
  at P [] i d all lt = absurd (omega arith)
  at P (e ∷ ds) zero d all lt = all.0
  at P (e ∷ ds) (suc i) d all lt = at P ds i d all.1 (omega arith)

  -- one that comes before p has only such before it
  pub lower : (p : X) (ds : List X) (i : ℕ) (d : X) → IsStrictlySortedBy cmp ds → i < length ds → is_lt (cmp (get_or ds i d) p) ≡ true
      → All_before p (take (suc i) ds)
  unfolding IsStrictlySortedBy
  lower p [] i d rises lt h = tt
  lower p (e ∷ ds) zero d rises lt h = (h, tt)
  lower p (e ∷ ds) (suc i) d rises lt h =
      let inside : i < length ds = omega arith in
      (through e (get_or ds i d) p (at (λ y. cmp e y ≡ Less) ds i d rises.0 inside) h, lower p ds i d rises.1 inside h)

  past : (p e : X) (ds : List X) → AllByRecursion (λ y. cmp e y ≡ Less) ds → is_lt (cmp e p) ≡ false → None_before p ds
  past p e [] above h = tt
  past p e (d ∷ ds) above h = (elim (is_lt (cmp d p)) as (λ b. is_lt (cmp d p) ≡ b → b ≡ false) [ true ↦ λ k. absurd (both_ways (is_lt (cmp e p)) h (through e d p above.0 k)) | false ↦ λ _. refl ] refl, past p e ds above.1 h)

  -- one that does not come before p has none such after it
  pub upper : (p : X) (ds : List X) (i : ℕ) (d : X) → IsStrictlySortedBy cmp ds → i < length ds → is_lt (cmp (get_or ds i d) p) ≡ false
      → None_before p (drop i ds)
  unfolding IsStrictlySortedBy
  upper p [] i d rises lt h = absurd (omega arith)
  upper p (e ∷ ds) zero d rises lt h = (h, past p e ds rises.0 h)
  upper p (e ∷ ds) (suc i) d rises lt h = upper p ds i d rises.1 (omega arith) h

  -- an insert between the two
  pub insert_here : (p : X) (ds : List X) (i : ℕ) → AllByRecursion (λ d. cmp d p ≢ Equal) ds → All_before p (take i ds) → None_before p (drop i ds)
      → insert ds i p ≡ insert_by cmp p ds
  insert_here p [] zero apart_all before after = refl
  insert_here p [] (suc i) apart_all before after = refl
  insert_here p (d ∷ ds) zero apart_all before after = rw (apart cmp total d p apart_all.0 after.0, insert_by) refl
  insert_here p (d ∷ ds) (suc i) apart_all before after =
      ap (λ es. d ∷ es) (insert_here p ds i apart_all.1 before.1 after) ∙ sym (rw (never_back cmp total d p before.0, insert_by) refl)
