-- A `HashMap` by numbers, as a finite map.
use Rattle.std.proofs.Common.{◌≡◌, sym, ◌∙◌, ℕ, List, Some, None, cond, nat_eq, arith}
use Rattle.std.specs.Ordering.{nat_cmp}
use Rattle.std.specs.Map.{lookup}
use Rattle.std.specs.BTreeMap.{is_at}
use Rattle.std.specs.FinMap.{from_entries, insert, remove, get, same_map, nat_cmp-IsAntisymmetric}
use Rattle.std.proofs.lemmas.Cmp.{nat_cmp_total}
use Rattle.std.proofs.lemmas.Bool.Decides.{nat_tests}
use Rattle.lists.proofs.Maps.{get_is, insert_is, remove_is}

-- the order of numbers tells alike those that are equal
agrees : (x y : ℕ) → is_at (nat_cmp x) y ≡ nat_eq x y
agrees x y = grind (arith, nat_tests)

module _ {X : Type 0} (es : List (ℕ × X)) where
  looked : (q : ℕ) → lookup (is_at (nat_cmp q)) es ≡ lookup (nat_eq q) es
  looked q = λ i. lookup (λ x. agrees q x i) es

  pub get_uid : (q : ℕ) → get (from_entries {R = nat_cmp} es) q ≡ lookup (nat_eq q) es
  get_uid q = get_is nat_cmp_total es q ∙ looked q

module _ {X : Type 0} (es fs : List (ℕ × X)) where
  pub same_uids : ((q : ℕ) → lookup (nat_eq q) fs ≡ lookup (nat_eq q) es) → from_entries {R = nat_cmp} fs ≡ from_entries es
  same_uids same = same_map nat_cmp_total nat_cmp-IsAntisymmetric _ _ (λ q. get_uid fs q ∙ same q ∙ sym (get_uid es q))

  pub inserted_uid : (k : ℕ) (v : X) → ((q : ℕ) → lookup (nat_eq q) fs ≡ cond (nat_eq k q) (Some v) (lookup (nat_eq q) es))
      → from_entries {R = nat_cmp} fs ≡ insert (from_entries es) k v
  inserted_uid k v only =
      insert_is nat_cmp_total nat_cmp-IsAntisymmetric es fs k v (λ q.
      looked fs q ∙ only q ∙ (λ i. cond (sym (agrees k q) i) (Some v) (sym (looked es q) i)))

  pub removed_uid : (k : ℕ) → ((q : ℕ) → lookup (nat_eq q) fs ≡ cond (nat_eq k q) None (lookup (nat_eq q) es))
      → from_entries {R = nat_cmp} fs ≡ remove (from_entries es) k
  removed_uid k only =
      remove_is nat_cmp_total nat_cmp-IsAntisymmetric es fs k (λ q.
      looked fs q ∙ only q ∙ (λ i. cond (sym (agrees k q) i) None (sym (looked es q) i)))
