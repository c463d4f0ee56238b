-- Lists that are sorted by inserts, and maps that hold each value under a key of its own.
use Rattle.std.proofs.Common.{◌≡◌, ◌≢◌, ◌∙◌, refl, sym, ap, List, [], ◌∷◌, ◌++◌, map}
use Rattle.std.specs.Prelude.{if◌then◌else◌}
use Rattle.std.specs.declared.cmp.Ordering.{Ordering}
use Rattle.std.specs.declared.cmp.Ordering.TheVariants.{Less, Equal, Greater}
use Rattle.std.specs.BTreeMap.{insert_entry}
use Rattle.std.specs.List.{All}
use Rattle.std.specs.Map.{values_of}
use Rattle.std.specs.Ordering.{is_lt, match_ordering, ordering_then}
use Rattle.std.proofs.lemmas.List.Elements.{All-nil, All-cons, All-head, All-tail}
use Rattle.std.proofs.lemmas.List.Sums.{fold-append}
use Rattle.lists.specs.Sorted.{insert_by, sorted_by}
use Rattle.lists.proofs.Elements.{All-fold}

-- what ties in order ties in the second part of the order
pub then_Equal : (o p : Ordering) → ordering_then o p ≡ Equal → p ≡ Equal
then_Equal Less p tie = cc
then_Equal Equal p tie = tie
then_Equal Greater p tie = cc

module _ {X : Type 0} (cmp : X → X → Ordering) where
  -- one more is inserted
  sorted_by-push : (xs : List X) (x : X) → sorted_by cmp (xs ++ x ∷ []) ≡ insert_by cmp x (sorted_by cmp xs)
  sorted_by-push xs x = fold-append (λ sorted y. insert_by cmp y sorted) [] xs (x ∷ [])

  -- what holds of each holds of each after an insert
  All-insert_by : (P : X → Type 0) (ys : List X) (x : X) → P x → All P ys → All P (insert_by cmp x ys)
  All-insert_by P [] x here all = All-cons P x [] here all
  All-insert_by P (y ∷ ys) x here all =
      let before = All-cons P x (y ∷ ys) here all in
      let after = All-cons P y (insert_by cmp x ys) (All-head P y ys all) (All-insert_by P ys x here (All-tail P y ys all)) in
      elim (cmp x y) as (λ o. All P (if is_lt o then x ∷ y ∷ ys else y ∷ insert_by cmp x ys)) [ Less ↦ before | Equal ↦ after | Greater ↦ after ]

  -- what holds of each holds of each in order
  pub All-sorted_by : (P : X → Type 0) (xs : List X) → All P xs → All P (sorted_by cmp xs)
  All-sorted_by P xs all = All-fold P (λ sorted x. insert_by cmp x sorted) (All-insert_by P) [] xs (All-nil P) all

module _ {K X : Type 0} (key : X → K) where
  -- each value under its key
  abbrev pub keyed : List X → List (K × X)
  keyed xs = map (λ x. (key x, x)) xs

  -- which are the values again
  pub values_of-keyed : (xs : List X) → values_of (keyed xs) ≡ xs
  values_of-keyed [] = refl
  values_of-keyed (x ∷ xs) = ap (λ ys. x ∷ ys) (values_of-keyed xs)

  module _ (order : K → K → Ordering) (cmp : X → X → Ordering) (agrees : (x y : X) → order (key x) (key y) ≡ cmp x y) where
    -- under a key that is new, the entry of a value comes where the value does
    insert_entry-insert_by : (ys : List X) (x : X) → All (λ y. cmp x y ≢ Equal) ys → insert_entry order (keyed ys) (key x) x ≡ keyed (insert_by cmp x ys)
    insert_entry-insert_by [] x new = refl
    insert_entry-insert_by (y ∷ ys) x new =
        let New : X → Type 0 = λ z. cmp x z ≢ Equal in
        let entries : Ordering → List (K × X) = λ o.
        match_ordering o (keyed (x ∷ y ∷ ys)) ((key y, x) ∷ keyed ys) ((key y, y) ∷ insert_entry order (keyed ys) (key x) x) in
        ap entries (agrees x y)
        ∙ elim (cmp x y) as (λ o. cmp x y ≡ o → entries o ≡ keyed (if is_lt o then x ∷ y ∷ ys else y ∷ insert_by cmp x ys)) [
          | Less ↦ λ _. refl
          | Equal ↦ λ tie. absurd (All-head New y ys new tie)
          | Greater ↦ λ _. ap (λ es. (key y, y) ∷ es) (insert_entry-insert_by ys x (All-tail New y ys new))
        ] refl

    -- so the entries of sorted values, and one more, are those of the values and one more, sorted
    pub insert_entry-sorted_by : (xs : List X) (x : X) → All (λ y. cmp x y ≢ Equal) xs → insert_entry order (keyed (sorted_by cmp xs)) (key x) x ≡ keyed (sorted_by cmp (xs ++ x ∷ []))
    insert_entry-sorted_by xs x new =
        insert_entry-insert_by (sorted_by cmp xs) x (All-sorted_by cmp (λ y. cmp x y ≢ Equal) xs new) ∙ ap keyed (sym (sorted_by-push cmp xs x))
