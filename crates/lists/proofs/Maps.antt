-- A `BTreeMap` as a finite map, by its entries: what `get`, `insert` and `remove` do to it, for any order of keys that is
-- total and in which keys that compare alike are one.
use Rattle.std.proofs.Common.{◌≡◌, Bool, List, [], ◌∷◌, T, true, cond, map, Some, None, refl, sym, ap, subst, ◌∙◌}
use Rattle.std.specs.declared.cmp.Ordering.{Ordering}
use Rattle.std.specs.declared.cmp.Ordering.TheVariants.{Less}
use Rattle.std.specs.List.{AllByRecursion}
use Rattle.std.specs.List.Sorted.{IsStrictlySortedBy}
use Rattle.std.specs.Ordering.{is_lt}
use Rattle.std.proofs.lemmas.Bool.{and_from}
use Rattle.std.specs.Cmp.{IsTotalOrder, eq_by_cmp_equiv}
use Rattle.std.specs.Map.{lookup}
use Rattle.std.specs.BTreeMap.{is_at}
use Rattle.std.specs.FinMap.Entries.{below_all}
use Rattle.std.specs.FinMap.{find, is_sorted, entries, from_entries, from_sorted, insert, remove, get, get-from_entries, get-from_sorted, entries-from_sorted, get-insert, get-remove, same_map, IsAntisymmetric}

find-lookup : {K V : Type 0} (cmp : K → K → Ordering) (es : List (K × V)) (q : K) → find cmp q es ≡ lookup (is_at (cmp q)) es
find-lookup cmp [] q = refl
find-lookup cmp (e ∷ es) q = ap (cond (is_at (cmp q) e.0) (Some e.1)) (find-lookup cmp es q)

keys_rise : {K V : Type 0} (cmp : K → K → Ordering) (es : List (K × V)) → IsStrictlySortedBy cmp (map (λ e. e.0) es)
    → is_sorted cmp es ≡ true
unfolding IsStrictlySortedBy
keys_rise cmp [] strict = refl
keys_rise {K} {V} cmp (e ∷ es) strict = and_from (below es) (is_sorted cmp es) (all_below es strict.0) (keys_rise cmp es strict.1)
  where
    below : List (K × V) → Bool
    below fs = below_all cmp e.0 fs

    all_below : (fs : List (K × V)) → AllByRecursion (λ k. cmp e.0 k ≡ Less) (map (λ e. e.0) fs) → below fs ≡ true
    all_below [] a = refl
    all_below (f ∷ fs) a = and_from (is_lt (cmp e.0 f.0)) (below fs) (ap is_lt a.0) (all_below fs a.1)

module _ {K V : Type 0} {cmp : K → K → Ordering} (total : IsTotalOrder cmp) where
  -- what the map has at a key
  pub get_is : (es : List (K × V)) (q : K) → get (from_entries {R = cmp} es) q ≡ lookup (is_at (cmp q)) es
  get_is es q = get-from_entries total es q ∙ find-lookup cmp es q

  -- entries that differ at one key alone are those of the map with that key inserted, or without it
  pub insert_is : IsAntisymmetric cmp → (es fs : List (K × V)) (k : K) (v : V)
      → ((q : K) → lookup (is_at (cmp q)) fs ≡ cond (is_at (cmp k) q) (Some v) (lookup (is_at (cmp q)) es))
      → from_entries {R = cmp} fs ≡ insert (from_entries es) k v
  insert_is exact es fs k v only =
      same_map total exact _ _ (λ q.
      get_is fs q ∙ only q ∙ ap (λ b. cond b (Some v) (lookup (is_at (cmp q)) es)) ((eq_by_cmp_equiv total).symm k q)
      ∙ sym (get-insert total (from_entries es) k v q ∙ ap (cond (is_at (cmp q) k) (Some v)) (get_is es q)))

  pub remove_is : IsAntisymmetric cmp → (es fs : List (K × V)) (k : K)
      → ((q : K) → lookup (is_at (cmp q)) fs ≡ cond (is_at (cmp k) q) None (lookup (is_at (cmp q)) es))
      → from_entries {R = cmp} fs ≡ remove (from_entries es) k
  remove_is exact es fs k only =
      same_map total exact _ _ (λ q.
      get_is fs q ∙ only q ∙ ap (λ b. cond b None (lookup (is_at (cmp q)) es)) ((eq_by_cmp_equiv total).symm k q)
      ∙ sym (get-remove total (from_entries es) k q ∙ ap (cond (is_at (cmp q) k) None) (get_is es q)))

  -- entries in the order of their keys are those of the map
  pub entries_are : IsAntisymmetric cmp → (es : List (K × V)) → IsStrictlySortedBy cmp (map (λ e. e.0) es)
      → entries (from_entries {R = cmp} es) ≡ es
  entries_are exact es strict =
      let sorted : T (is_sorted cmp es) = subst T (sym (keys_rise cmp es strict)) tt in
      let same = same_map total exact (from_entries es) (from_sorted es) (λ q. get-from_entries total es q ∙ sym (get-from_sorted cmp es q sorted)) in
      ap entries same ∙ entries-from_sorted cmp es sorted
