-- What holds of each element of a list.
use Rattle.std.proofs.Common.{◌≡◌, Bool, true, false, cond, List, [], ◌∷◌, Some}
use Rattle.std.specs.List.{All, find, fold, list_all}
use Rattle.std.specs.Option.{IfSome}
use Rattle.std.proofs.lemmas.List.Elements.{All-head, All-tail}
use Rattle.std.proofs.lemmas.List.Sums.{AllPass-from_list_all, list_all-from_AllPass}

module _ {X : Type 0} (P : X → Type 0) where
  -- what holds of each holds of all that a fold gathers
  pub All-fold : (f : List X → X → List X) → ((ys : List X) (x : X) → P x → All P ys → All P (f ys x)) → (ys xs : List X) → All P ys → All P xs → All P (fold f ys xs)
  All-fold f step ys [] old all = old
  All-fold f step ys (x ∷ xs) old all = All-fold f step (f ys x) xs (step ys x (All-head P x xs all) old) (All-tail P x xs all)

  -- what holds of each holds of the one that a search finds
  pub IfSome-find : (test : X → Bool) (xs : List X) → All P xs → IfSome (find test xs) P
  IfSome-find test [] all = tt
  IfSome-find test (x ∷ xs) all =
      elim (test x) as (λ b. IfSome (cond b (Some x) (find test xs)) P) [ true ↦ All-head P x xs all | false ↦ IfSome-find test xs (All-tail P x xs all) ]

-- where each passes one test, each passes a weaker one
pub list_all-weaker : {X : Type 0} (p q : X → Bool) → ((x : X) → p x ≡ true → q x ≡ true) → (xs : List X) → list_all p xs ≡ true → list_all q xs ≡ true
list_all-weaker p q weaker xs all = list_all-from_AllPass q xs (λ k d lt. weaker _ (AllPass-from_list_all p xs all k d lt))
