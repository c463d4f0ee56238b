-- Addresses that are said one after the other, each kept once.
use Rattle.std.proofs.Common.{◌≡◌, refl, sym, ap, ◌∙◌, subst, true, false, not, ◌||◌, cond, List, [], ◌∷◌, ◌++◌}
use Rattle.std.specs.List.{list_any, AllByRecursion, IsDistinct}
use Rattle.std.specs.Set.{remove_key}
use Rattle.std.specs.Str.{bytes_eq}
use Rattle.std.specs.Cmp.Lexicographic.{bytes_decides}
use Rattle.indexmap.specs.IndexSet.{insert_key}
use Rattle.lists.specs.Distinct.{each_once}
use Rattle.lists.proofs.DistinctLaws.{firsts-push, IsDistinct-firsts}
use Rattle.lists.proofs.Inserts.{None_of, none_filtered}
use Rattle.mailbox_model.specs.Lists.{Bytes, without}
use Rattle.mailbox_model.proofs.MailLaws.{bytes_turn}

any_turned : (y : Bytes) (xs : List Bytes) → list_any (bytes_eq y) xs ≡ list_any (λ x. bytes_eq x y) xs
any_turned y [] = refl
any_turned y (x ∷ xs) = λ i. bytes_turn y x i || any_turned y xs i

-- one more is put after the others, unless it is there
pub once_more : (xs : List Bytes) (y : Bytes) → insert_key bytes_eq (each_once xs) y ≡ each_once (xs ++ y ∷ [])
once_more xs y =
    ap (λ b. cond b (each_once xs) (each_once xs ++ y ∷ [])) (any_turned y (each_once xs))
    ∙ sym (firsts-push bytes_eq through xs y)
  where
    through : (x y z : Bytes) → bytes_eq x y ≡ true → bytes_eq y z ≡ true → bytes_eq x z ≡ true
    through x y z h k = subst (λ w. bytes_eq x w ≡ true) ((bytes_decides y z).0 k) h

-- one is taken out of a list without repeats
pub remove_once : (y : Bytes) (xs : List Bytes) → IsDistinct bytes_eq xs → remove_key (bytes_eq y) xs ≡ without y xs
unfolding IsDistinct
remove_once y [] once = refl
remove_once y (x ∷ xs) once =
    elim (bytes_eq y x) as (λ b. bytes_eq y x ≡ b → cond b xs (x ∷ remove_key (bytes_eq y) xs) ≡ cond (not b) (x ∷ without y xs) (without y xs)) [
      | true ↦ λ same. sym (none_filtered (bytes_eq y) xs (others same xs once.0))
      | false ↦ λ _. ap (λ zs. x ∷ zs) (remove_once y xs once.1)
    ] refl
  where
    others : bytes_eq y x ≡ true → (zs : List Bytes) → AllByRecursion (λ z. bytes_eq x z ≡ false) zs → None_of (bytes_eq y) zs
    others same [] apart = tt
    others same (z ∷ zs) apart = (alike ∙ apart.0, others same zs apart.1)
      where
        alike : bytes_eq y z ≡ bytes_eq x z
        alike = ap (λ w. bytes_eq w z) ((bytes_decides y x).0 same)

-- so of what was said, each once, one is left out
pub said_without : (y : Bytes) (xs before : List Bytes) → xs ≡ each_once before → remove_key (bytes_eq y) xs ≡ without y xs
said_without y xs before is = remove_once y xs (subst (IsDistinct bytes_eq) (sym is) (IsDistinct-firsts bytes_eq before))
