-- The first value of each name, one parameter after the other.
use Rattle.std.proofs.Common.{◌≡◌, ℕ, suc, ◌+◌, ◌≤◌, Bool, true, false, cond, List, [], ◌∷◌, length, Option, Some, None, refl, sym, ap, ◌∙◌, inl, inr, rules, arith}
use Rattle.std.specs.Borrow.{Bor}
use Rattle.std.specs.BTreeMap.{BTreeMap, get_by}
use Rattle.std.specs.Prelude.{◌&&◌, ◌==◌, not, bytes_eq, is_some, option_map}
use Rattle.std.specs.List.{cons_option, filter_map, onto_first}
use Rattle.std.specs.Map.{update}
use Rattle.std.specs.Option.{option_or}
use Rattle.std.specs.Cmp.Lexicographic.{slice_cmp}
use Rattle.std.specs.Ordering.{nat_cmp}
use Rattle.std.proofs.lemmas.Bool.{cases_Bool}
use Rattle.std.proofs.lemmas.Cmp.{nat_list_eq_equiv}
use Rattle.std.proofs.lemmas.Slice.Eq.{bytes_eq-Decides}
use Rattle.mime_fields.specs.Segments.{escaped_after, further_segments, others_of, quoted_after, segments, segments_from}
use Rattle.mime_fields.specs.RawParams.{raw_param_of, raw_params, value_of}
use Rattle.mime_fields.specs.Views.{held}

option_map-cond : {A B : Type 0} (f : A → B) (b : Bool) (o p : Option A) → option_map f (cond b o p) ≡ cond b (option_map f o) (option_map f p)
option_map-cond f true o p = refl
option_map-cond f false o p = refl

or-None : {A : Type 0} (o : Option A) → option_or o None ≡ o
or-None None = refl
or-None (Some x) = refl

none_is : {A : Type 0} (o : Option A) → is_some o ≡ false → o ≡ None
none_is None h = refl
none_is (Some x) h = absurd cc

-- what a map has at a name
abbrev pub found_in : BTreeMap (Bor (List ℕ)) (Bor (List ℕ)) → List ℕ → Option (Bor (List ℕ))
found_in firsts name = get_by (λ k. slice_cmp nat_cmp name k.now) firsts

-- a key that the map had not was put
pub held-put : (old new : BTreeMap (Bor (List ℕ)) (Bor (List ℕ))) (key : List ℕ) (value : Bor (List ℕ))
    → is_some (found_in old key) ≡ false
    → ((q : List ℕ) → found_in new q ≡ update bytes_eq (found_in old) key (Some value) q)
    → (q : List ℕ) → held new q ≡ option_or (held old q) (cond (bytes_eq q key) (Some (value_of value.now)) None)
held-put old new key value none put q =
    let swapped : bytes_eq key q ≡ bytes_eq q key = nat_list_eq_equiv.symm key q in
    ap (option_map (λ v. value_of v.now)) (put q)
    ∙ option_map-cond (λ (v : Bor (List ℕ)). value_of v.now) (bytes_eq key q) (Some value) (found_in old q)
    ∙ elim (cases_Bool (bytes_eq q key)) [
      | inl same ↦ (
          let is : q ≡ key = search (rules, bytes_eq-Decides) in
          let nothing : found_in old q ≡ None = ap (found_in old) is ∙ none_is (found_in old key) none in
          rw (swapped, same, nothing) refl)
      | inr apart ↦ rw (swapped, apart) (sym (or-None (held old q)))
    ]

-- ---- a body has no more parameters than bytes

at_most-onto : (b : ℕ) (ss : List (List ℕ)) → length (onto_first b ss) ≤ length ss + 1
at_most-onto b [] = omega arith
at_most-onto b (s ∷ ss) = omega arith

at_most-cond : (test : Bool) (b n : ℕ) (ss : List (List ℕ)) → length ss ≤ n → length (cond test ([] ∷ ss) (onto_first b ss)) ≤ n + 1
at_most-cond true b n ss few = omega arith
at_most-cond false b n ss few = omega (arith, at_most-onto b ss)

at_most-segments : (quoted escaped : Bool) (bytes : List ℕ) → length (segments_from quoted escaped bytes) ≤ length bytes + 1
at_most-segments quoted escaped [] = omega arith
at_most-segments quoted escaped (b ∷ bs) =
    let few = at_most-segments (quoted_after quoted escaped b) (escaped_after quoted escaped b) bs in
    let all = at_most-cond (b == 59 && not quoted) b (length bs + 1) _ few in
    omega arith

at_most-others : (n : ℕ) (ss : List (List ℕ)) → length ss ≤ n + 1 → length (others_of ss) ≤ n
at_most-others n [] few = omega arith
at_most-others n (s ∷ ss) few = omega arith

at_most-step : {Y : Type 0} (o : Option Y) (ys : List Y) (n : ℕ) → length ys ≤ n → length (cons_option o ys) ≤ suc n
at_most-step None ys n few = omega arith
at_most-step (Some y) ys n few = omega arith

at_most-filter_map : {X Y : Type 0} (h : X → Option Y) (xs : List X) → length (filter_map h xs) ≤ length xs
at_most-filter_map h [] = omega arith
at_most-filter_map h (x ∷ xs) = at_most-step (h x) (filter_map h xs) (length xs) (at_most-filter_map h xs)

pub at_most-params : (body : List ℕ) → length (raw_params body) ≤ length body
at_most-params body =
    let few = at_most-others (length body) (segments body) (at_most-segments false false body) in
    omega (arith, at_most-filter_map raw_param_of (further_segments body))
