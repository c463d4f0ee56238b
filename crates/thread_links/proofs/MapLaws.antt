-- Cites by id, as a list in mail order.
use Rattle.std.proofs.Common.{◌≡◌, ◌≢◌, refl, sym, ap, ◌∙◌, subst, Bool, true, false, ◌||◌, cond, Option, Some, None, is_some, List, [], ◌∷◌, inl, inr, map}
use Rattle.std.specs.Prelude.{if◌then◌else◌, fold, filter, not}
use Rattle.std.specs.List.{find, AllByRecursion}
use Rattle.std.specs.List.Sorted.{IsStrictlySortedBy}
use Rattle.std.specs.Option.{option_map, option_or}
use Rattle.std.specs.declared.cmp.Ordering.TheVariants.{Less, Equal}
use Rattle.std.specs.Ordering.{is_lt, is_eq, nat_cmp}
use Rattle.std.specs.Cmp.{IsTotalOrder}
use Rattle.std.specs.Cmp.Lexicographic.{slice_cmp, bytes_decides}
use Rattle.std.specs.Map.{lookup, keys_of}
use Rattle.std.specs.Str.{bytes_eq}
use Rattle.std.proofs.lemmas.Map.Text.{is_eq-slice_cmp}
use Rattle.std.proofs.lemmas.Bool.{both_ways, or_parts, or_from, cases_Bool}
use Rattle.std.proofs.lemmas.Cmp.{on_total}
use Rattle.lists.specs.Sorted.{insert_by, sorted_by}
use Rattle.lists.proofs.Inserts.{Placed, Rising-insert_by, list_any-insert_by, list_any-found, None_of, find-insert_by, none_found, filter_none, find-filter}
use Rattle.lists.proofs.Rising.{Rising, Above, below_of, never_back, apart, Rising-filter}
use Rattle.card_type.proofs.Orders.{spots_total, spots_exact}
use Rattle.card_type.specs.Spots.{spot_cmp}
use Rattle.mailbox_model.specs.declared.links.Cites.{Cites}
use Rattle.mailbox_model.specs.Lists.{Bytes}
use Rattle.mailbox_model.specs.Chats.{cites_cmp, is_id_among, DistinctIds}
use Rattle.mailbox_model.proofs.ChatLaws.{same_bytes}
use Rattle.mailbox_model.proofs.MailLaws.{bytes_turn}
use Rattle.thread_links.specs.declared.kept.Kept.{Kept}
use Rattle.thread_links.specs.Linked.{without_id}
use Rattle.thread_links.specs.Kept.{Entries, kept_at, cites_at, cites_in, without_chats}
use Rattle.thread_links.specs.Work.{has_id, is_before}

pub cites_total : IsTotalOrder cites_cmp
cites_total = on_total (λ (t : Cites). t.spot) spots_total

-- ---- where one is inserted

-- cards with other ids don't tie
no_tie : (x y : Cites) → bytes_eq x.spot.id y.spot.id ≡ false → cites_cmp x y ≢ Equal
no_tie x y n e = both_ways (bytes_eq x.spot.id y.spot.id) n ((bytes_decides x.spot.id y.spot.id).1 (ap (λ s. s.id) (spots_exact x.spot y.spot e)))

placed : (x : Cites) (ts : List Cites) → is_id_among ts x.spot.id ≡ false → Placed cites_cmp (below_of cites_cmp cites_total) (never_back cites_cmp cites_total) x ts
placed x [] n = tt
placed x (t ∷ ts) n =
    let parts = or_parts (bytes_eq x.spot.id t.spot.id) (is_id_among ts x.spot.id) n in
    (apart cites_cmp cites_total x t (no_tie x t parts.0), placed x ts parts.1)

pub rising_insert : (x : Cites) (ts : List Cites) → is_id_among ts x.spot.id ≡ false → Rising cites_cmp ts → Rising cites_cmp (insert_by cites_cmp x ts)
rising_insert x ts n r = Rising-insert_by cites_cmp (below_of cites_cmp cites_total) (never_back cites_cmp cites_total) x ts (placed x ts n) r

pub among_insert : (x : Cites) (ts : List Cites) (id : Bytes) → is_id_among (insert_by cites_cmp x ts) id ≡ (bytes_eq id x.spot.id || is_id_among ts id)
among_insert x ts id = list_any-insert_by cites_cmp (has_id id) x ts

pub distinct_insert : (x : Cites) (ts : List Cites) → is_id_among ts x.spot.id ≡ false → DistinctIds ts → DistinctIds (insert_by cites_cmp x ts)
distinct_insert x [] n d = (refl, tt)
distinct_insert x (t ∷ ts) n d =
    let parts = or_parts (bytes_eq x.spot.id t.spot.id) (is_id_among ts x.spot.id) n in
    elim (is_lt (cites_cmp x t)) as (λ b. DistinctIds (if b then x ∷ t ∷ ts else t ∷ insert_by cites_cmp x ts)) [
      | true ↦ (n, d)
      | false ↦ (among_insert x ts t.spot.id ∙ or_from (bytes_eq t.spot.id x.spot.id) (is_id_among ts t.spot.id) (bytes_turn t.spot.id x.spot.id ∙ parts.0) d.0, distinct_insert x ts parts.1 d.1)
    ]

none_has : (id : Bytes) (ts : List Cites) → is_id_among ts id ≡ false → None_of (has_id id) ts
none_has id [] n = tt
none_has id (t ∷ ts) n = let parts = or_parts (bytes_eq id t.spot.id) (is_id_among ts id) n in (parts.0, none_has id ts parts.1)

pub not_found : (ts : List Cites) (id : Bytes) → is_id_among ts id ≡ false → find (has_id id) ts ≡ None
not_found ts id n = none_found (has_id id) ts (none_has id ts n)

pub found_insert : (x : Cites) (ts : List Cites) (id : Bytes) → is_id_among ts x.spot.id ≡ false
    → find (has_id id) (insert_by cites_cmp x ts) ≡ (if bytes_eq id x.spot.id then Some x else find (has_id id) ts)
found_insert x ts id n =
    elim (bytes_eq id x.spot.id) as (λ b. bytes_eq id x.spot.id ≡ b → find (has_id id) (insert_by cites_cmp x ts) ≡ (if b then Some x else find (has_id id) ts)) [
      | true ↦ λ e. find-insert_by cites_cmp (has_id id) x ts e (none_has id ts (ap (is_id_among ts) ((bytes_decides id x.spot.id).0 e) ∙ n))
      | false ↦ λ e. skip e ts
    ] refl
  where
    skip : bytes_eq id x.spot.id ≡ false → (us : List Cites) → find (has_id id) (insert_by cites_cmp x us) ≡ find (has_id id) us
    skip e [] = rw e refl
    skip e (u ∷ us) =
        elim (is_lt (cites_cmp x u)) as (λ b. find (has_id id) (if b then x ∷ u ∷ us else u ∷ insert_by cites_cmp x us) ≡ find (has_id id) (u ∷ us)) [
          | true ↦ rw e refl
          | false ↦ ap (λ o. cond (has_id id u) (Some u) o) (skip e us)
        ]

-- ---- what is sorted

-- in mail order, each id once
pub record IsSorted (ts : List Cites) : Type 0 where
  pub rising : Rising cites_cmp ts
  pub once : DistinctIds ts

abbrev onto : List Cites → List Cites → List Cites
onto ts cs = fold (λ sorted t. insert_by cites_cmp t sorted) ts cs

abbrev New : List Cites → List Cites → Type 0
New ts cs = AllByRecursion (λ c. is_id_among ts c.spot.id ≡ false) cs

still_new : (x : Cites) (ts cs : List Cites) → is_id_among cs x.spot.id ≡ false → New ts cs → New (insert_by cites_cmp x ts) cs
still_new x ts [] n a = tt
still_new x ts (c ∷ cs) n a =
    let parts = or_parts (bytes_eq x.spot.id c.spot.id) (is_id_among cs x.spot.id) n in
    (among_insert x ts c.spot.id ∙ or_from (bytes_eq c.spot.id x.spot.id) (is_id_among ts c.spot.id) (bytes_turn c.spot.id x.spot.id ∙ parts.0) a.0, still_new x ts cs parts.1 a.1)

sorted_onto : (ts cs : List Cites) → IsSorted ts → DistinctIds cs → New ts cs → IsSorted (onto ts cs)
sorted_onto ts [] s d a = s
sorted_onto ts (c ∷ cs) s d a =
    sorted_onto (insert_by cites_cmp c ts) cs (record { rising = rising_insert c ts a.0 s.rising; once = distinct_insert c ts a.0 s.once }) d.1 (still_new c ts cs d.0 a.1)

found_onto : (ts cs : List Cites) (id : Bytes) → DistinctIds cs → New ts cs → find (has_id id) (onto ts cs) ≡ option_or (find (has_id id) cs) (find (has_id id) ts)
found_onto ts [] id d a = refl
found_onto ts (c ∷ cs) id d a =
    found_onto (insert_by cites_cmp c ts) cs id d.1 (still_new c ts cs d.0 a.1)
    ∙ ap (option_or (find (has_id id) cs)) (found_insert c ts id a.0)
    ∙ elim (bytes_eq id c.spot.id) as (λ b. bytes_eq id c.spot.id ≡ b → option_or (find (has_id id) cs) (if b then Some c else find (has_id id) ts) ≡ option_or (cond b (Some c) (find (has_id id) cs)) (find (has_id id) ts)) [
      | true ↦ λ e. ap (λ o. option_or o (Some c)) (not_found cs id (ap (is_id_among cs) ((bytes_decides id c.spot.id).0 e) ∙ d.0))
      | false ↦ λ e. refl
    ] refl

all_new : (cs : List Cites) → New [] cs
all_new [] = tt
all_new (c ∷ cs) = (refl, all_new cs)

or_none : (o : Option Cites) → option_or o None ≡ o
or_none None = refl
or_none (Some t) = refl

pub sorted_all : (cs : List Cites) → DistinctIds cs → IsSorted (sorted_by cites_cmp cs)
sorted_all cs d = sorted_onto [] cs (record { rising = tt; once = tt }) d (all_new cs)

pub found_sorted : (cs : List Cites) (id : Bytes) → DistinctIds cs → find (has_id id) (sorted_by cites_cmp cs) ≡ find (has_id id) cs
found_sorted cs id d = found_onto [] cs id d (all_new cs) ∙ or_none (find (has_id id) cs)

-- ---- lists in mail order that have the same cards are one

above_found : (x y : Cites) (ts : List Cites) (id : Bytes) → Above cites_cmp x ts → find (has_id id) ts ≡ Some y → is_before x.spot y.spot ≡ true
above_found x y [] id a h = cc
above_found x y (t ∷ ts) id a h =
    elim (has_id id t) as (λ b. cond b (Some t) (find (has_id id) ts) ≡ Some y → is_before x.spot y.spot ≡ true) [
      | true ↦ λ k. let same : t ≡ y = cc in subst (λ u. is_before x.spot u.spot ≡ true) same a.0
      | false ↦ λ k. above_found x y ts id a.1 k
    ] h

found_first : (x : Cites) (ts : List Cites) → find (has_id x.spot.id) (x ∷ ts) ≡ Some x
found_first x ts = ap (λ b. cond b (Some x) (find (has_id x.spot.id) ts)) (same_bytes x.spot.id)

heads : (x y : Cites) (xs ys : List Cites) → Above cites_cmp x xs → Above cites_cmp y ys
    → ((id : Bytes) → find (has_id id) (x ∷ xs) ≡ find (has_id id) (y ∷ ys)) → x ≡ y
heads x y xs ys a b h = elim (cases_Bool (bytes_eq x.spot.id y.spot.id)) [
  | inl e ↦ (
      let k : cond (bytes_eq x.spot.id y.spot.id) (Some y) (find (has_id x.spot.id) ys) ≡ Some x = sym (h x.spot.id) ∙ found_first x xs in
      let l : Some y ≡ Some x = sym (ap (λ c. cond c (Some y) (find (has_id x.spot.id) ys)) e) ∙ k in
      cc
      )
  | inr n ↦ (
      let in_ys : find (has_id x.spot.id) ys ≡ Some x = sym (ap (λ c. cond c (Some y) (find (has_id x.spot.id) ys)) n) ∙ sym (h x.spot.id) ∙ found_first x xs in
      let m = bytes_turn y.spot.id x.spot.id ∙ n in
      let in_xs : find (has_id y.spot.id) xs ≡ Some y = sym (ap (λ c. cond c (Some x) (find (has_id y.spot.id) xs)) m) ∙ h y.spot.id ∙ found_first y ys in
      absurd (both_ways (is_before y.spot x.spot) (never_back spot_cmp spots_total x.spot y.spot (above_found x y xs y.spot.id a in_xs)) (above_found y x ys x.spot.id b in_ys))
      )
]

pub one_list : (xs ys : List Cites) → IsSorted xs → IsSorted ys → ((id : Bytes) → find (has_id id) xs ≡ find (has_id id) ys) → xs ≡ ys
one_list [] [] r s h = refl
one_list [] (y ∷ ys) r s h = let e : None ≡ Some y = h y.spot.id ∙ found_first y ys in cc
one_list (x ∷ xs) [] r s h = let e : Some x ≡ None = sym (found_first x xs) ∙ h x.spot.id in cc
one_list (x ∷ xs) (y ∷ ys) r s h =
    let same : x ≡ y = heads x y xs ys r.rising.0 s.rising.0 h in
    λ i. same i ∷ one_list xs ys (record { rising = r.rising.1; once = r.once.1 }) (record { rising = s.rising.1; once = s.once.1 }) (rest same) i
  where
    rest : x ≡ y → (id : Bytes) → find (has_id id) xs ≡ find (has_id id) ys
    rest same id = elim (cases_Bool (bytes_eq id x.spot.id)) [
      | inl e ↦ (
          let is = (bytes_decides id x.spot.id).0 e in
          not_found xs id (ap (is_id_among xs) is ∙ r.once.0) ∙ sym (not_found ys id (ap (is_id_among ys) (is ∙ ap (λ t. t.spot.id) same) ∙ s.once.0))
          )
      | inr n ↦ (
          let m : bytes_eq id y.spot.id ≡ false = ap (λ t. bytes_eq id t.spot.id) (sym same) ∙ n in
          sym (ap (λ c. cond c (Some x) (find (has_id id) xs)) n) ∙ h id ∙ ap (λ c. cond c (Some y) (find (has_id id) ys)) m
          )
    ]

-- ---- the cites of entries

abbrev all_cites : Entries → List Cites
all_cites es = map (λ e. e.1.cites) es

-- no id comes twice, and each cites are under the id of their card
pub record AreUnder (es : Entries) : Type 0 where
  pub ids : IsStrictlySortedBy (slice_cmp nat_cmp) (keys_of es)
  pub under : (id : Bytes) (t : Cites) → cites_at es id ≡ Some t → t.spot.id ≡ id

abbrev Under : Entries → Type 0
Under es = AllByRecursion (λ e. e.1.cites.spot.id ≡ e.0) es

none_at : (es : Entries) (id : Bytes) → AllByRecursion (λ k. slice_cmp nat_cmp id k ≡ Less) (keys_of es) → kept_at es id ≡ None
none_at [] id a = refl
none_at (e ∷ es) id a =
    let other : bytes_eq id e.0 ≡ false = sym (is_eq-slice_cmp id e.0) ∙ ap is_eq a.0 in
    ap (λ b. cond b (Some e.1) (kept_at es id)) other ∙ none_at es id a.1

structural : (es : Entries) → AreUnder es → Under es
unfolding IsStrictlySortedBy
structural [] u = tt
structural (e ∷ es) u = (
  u.under e.0 e.1.cites (ap (option_map (λ k. k.cites)) (ap (λ b. cond b (Some e.1) (kept_at es e.0)) (same_bytes e.0))),
  structural es (record {
    ids = u.ids.1;
    under = λ id t h. u.under id t (elim (cases_Bool (bytes_eq id e.0)) [
      | inl k ↦ (let none : cites_at es id ≡ None = ap (cites_at es) ((bytes_decides id e.0).0 k) ∙ ap (option_map (λ c. c.cites)) (none_at es e.0 u.ids.0) in let no : None ≡ Some t = sym none ∙ h in cc)
      | inr n ↦ ap (option_map (λ c. c.cites)) (ap (λ b. cond b (Some e.1) (kept_at es id)) n) ∙ h
    ]);
  }),
)

found_all : (es : Entries) → Under es → (id : Bytes) → find (has_id id) (all_cites es) ≡ cites_at es id
found_all [] u id = refl
found_all (e ∷ es) u id =
    ap (λ i. cond (bytes_eq id i) (Some e.1.cites) (find (has_id id) (all_cites es))) u.0
    ∙ ap (λ o. cond (bytes_eq id e.0) (Some e.1.cites) o) (found_all es u.1 id)
    ∙ elim (bytes_eq id e.0) as (λ b. cond b (Some e.1.cites) (cites_at es id) ≡ option_map (λ k. k.cites) (cond b (Some e.1) (kept_at es id))) [ true ↦ refl | false ↦ refl ]

distinct_all : (es : Entries) → IsStrictlySortedBy (slice_cmp nat_cmp) (keys_of es) → Under es → DistinctIds (all_cites es)
unfolding IsStrictlySortedBy
distinct_all [] s u = tt
distinct_all (e ∷ es) s u = (
  list_any-found (has_id e.1.cites.spot.id) (all_cites es) ∙ ap is_some (found_all es u.1 e.1.cites.spot.id) ∙ ap (λ i. is_some (cites_at es i)) u.0
      ∙ ap (λ o. is_some (option_map (λ (k : Kept). k.cites) o)) (none_at es e.0 s.0),
  distinct_all es s.1 u.1,
)

pub sorted_in : (es : Entries) → AreUnder es → IsSorted (cites_in es)
sorted_in es u = sorted_all (all_cites es) (distinct_all es u.ids (structural es u))

pub found_in : (es : Entries) → AreUnder es → (id : Bytes) → find (has_id id) (cites_in es) ≡ cites_at es id
found_in es u id = found_sorted (all_cites es) id (distinct_all es u.ids (structural es u)) ∙ found_all es (structural es u) id

pub among_in : (es : Entries) → AreUnder es → (id : Bytes) → is_id_among (cites_in es) id ≡ is_some (cites_at es id)
among_in es u id = list_any-found (has_id id) (cites_in es) ∙ ap is_some (found_in es u id)

-- ---- one more, or one less

distinct_filter : (p : Cites → Bool) (ts : List Cites) → DistinctIds ts → DistinctIds (filter p ts)
distinct_filter p [] d = tt
distinct_filter p (t ∷ ts) d =
    elim (p t) as (λ b. DistinctIds (cond b (t ∷ filter p ts) (filter p ts))) [ true ↦ (fewer ts d.0, distinct_filter p ts d.1) | false ↦ distinct_filter p ts d.1 ]
  where
    fewer : (us : List Cites) → is_id_among us t.spot.id ≡ false → is_id_among (filter p us) t.spot.id ≡ false
    fewer [] n = refl
    fewer (u ∷ us) n =
        let parts = or_parts (bytes_eq t.spot.id u.spot.id) (is_id_among us t.spot.id) n in
        elim (p u) as (λ b. is_id_among (cond b (u ∷ filter p us) (filter p us)) t.spot.id ≡ false) [ true ↦ or_from (bytes_eq t.spot.id u.spot.id) (is_id_among (filter p us) t.spot.id) parts.0 (fewer us parts.1) | false ↦ fewer us parts.1 ]

sorted_without : (id : Bytes) (ts : List Cites) → IsSorted ts → IsSorted (without_id id ts)
sorted_without id ts s =
    record { rising = Rising-filter cites_cmp (λ t. not (bytes_eq id t.spot.id)) ts s.rising; once = distinct_filter (λ t. not (bytes_eq id t.spot.id)) ts s.once }

pub found_without : (id : Bytes) (ts : List Cites) (q : Bytes) → find (has_id q) (without_id id ts) ≡ cond (bytes_eq id q) None (find (has_id q) ts)
found_without id ts q =
    elim (bytes_eq id q) as (λ b. bytes_eq id q ≡ b → find (has_id q) (without_id id ts) ≡ cond b None (find (has_id q) ts)) [
      | true ↦ λ e. none_found (has_id q) (without_id id ts) (subst (λ i. None_of (has_id i) (without_id id ts)) ((bytes_decides id q).0 e) (filter_none (has_id id) ts))
      | false ↦ λ n. find-filter (has_id q) (λ t. not (bytes_eq id t.spot.id)) (λ t h. ap not (ap (bytes_eq id) (sym ((bytes_decides q t.spot.id).0 h)) ∙ n)) ts
    ] refl

looked_alone : (es : Entries) (q : Bytes) → lookup (bytes_eq q) (without_chats es) ≡ cites_at es q
looked_alone [] q = refl
looked_alone (e ∷ es) q =
    ap (λ o. cond (bytes_eq q e.0) (Some e.1.cites) o) (looked_alone es q)
    ∙ elim (bytes_eq q e.0) as (λ b. cond b (Some e.1.cites) (cites_at es q) ≡ option_map (λ k. k.cites) (cond b (Some e.1) (kept_at es q))) [ true ↦ refl | false ↦ refl ]

keys_alone : (es : Entries) → map (λ p. p.0) (without_chats es) ≡ keys_of es
keys_alone [] = refl
keys_alone (e ∷ es) = ap (λ ks. e.0 ∷ ks) (keys_alone es)

all_alone : (es : Entries) → map (λ p. p.1) (without_chats es) ≡ all_cites es
all_alone [] = refl
all_alone (e ∷ es) = ap (λ ts. e.1.cites ∷ ts) (all_alone es)

pub same_cites_in : (es fs : Entries) → without_chats fs ≡ without_chats es → cites_in fs ≡ cites_in es
same_cites_in es fs same = ap (sorted_by cites_cmp) (sym (all_alone fs) ∙ ap (map (λ p. p.1)) same ∙ all_alone es)

module _ (es fs : Entries) (u : AreUnder es) (ids : IsStrictlySortedBy (slice_cmp nat_cmp) (keys_of fs)) where
  module _ (id : Bytes) (k : Kept) (new : kept_at es id ≡ None) (is : k.cites.spot.id ≡ id)
      (updates : (q : Bytes) → kept_at fs q ≡ cond (bytes_eq id q) (Some k) (kept_at es q)) where
    cites_after : (q : Bytes) → cites_at fs q ≡ cond (bytes_eq id q) (Some k.cites) (cites_at es q)
    cites_after q =
        ap (option_map (λ c. c.cites)) (updates q)
        ∙ elim (bytes_eq id q) as (λ b. option_map (λ (c : Kept). c.cites) (cond b (Some k) (kept_at es q)) ≡ cond b (Some k.cites) (cites_at es q)) [ true ↦ refl | false ↦ refl ]

    pub under_inserted : AreUnder fs
    under_inserted = record {
      ids = ids;
      under = λ q t h. elim (cases_Bool (bytes_eq id q)) [
        | inl e ↦ (let here : Some k.cites ≡ Some t = sym (cites_after q ∙ ap (λ b. cond b (Some k.cites) (cites_at es q)) e) ∙ h in
            let same : k.cites ≡ t = cc in ap (λ c. c.spot.id) (sym same) ∙ is ∙ (bytes_decides id q).0 e)
        | inr n ↦ u.under q t (sym (cites_after q ∙ ap (λ b. cond b (Some k.cites) (cites_at es q)) n) ∙ h)
      ];
    }

    pub not_there : is_id_among (cites_in es) k.cites.spot.id ≡ false
    not_there = among_in es u k.cites.spot.id ∙ ap (λ i. is_some (cites_at es i)) is ∙ ap (λ o. is_some (option_map (λ (c : Kept). c.cites) o)) new

    pub cites_inserted : cites_in fs ≡ insert_by cites_cmp k.cites (cites_in es)
    cites_inserted =
        let s = sorted_in es u in
        one_list (cites_in fs) (insert_by cites_cmp k.cites (cites_in es)) (sorted_in fs under_inserted)
        (record { rising = rising_insert k.cites (cites_in es) not_there s.rising; once = distinct_insert k.cites (cites_in es) not_there s.once })
        (λ q. found_in fs under_inserted q ∙ cites_after q
        ∙ (λ i. cond (turned q i) (Some k.cites) (sym (found_in es u q) i))
        ∙ sym (found_insert k.cites (cites_in es) q not_there))
      where
        turned : (q : Bytes) → bytes_eq id q ≡ bytes_eq q k.cites.spot.id
        turned q = bytes_turn id q ∙ ap (bytes_eq q) (sym is)

  module _ (id : Bytes) (updates : (q : Bytes) → kept_at fs q ≡ cond (bytes_eq id q) None (kept_at es q)) where
    cites_left : (q : Bytes) → cites_at fs q ≡ cond (bytes_eq id q) None (cites_at es q)
    cites_left q =
        ap (option_map (λ c. c.cites)) (updates q)
        ∙ elim (bytes_eq id q) as (λ b. option_map (λ (c : Kept). c.cites) (cond b None (kept_at es q)) ≡ cond b None (cites_at es q)) [ true ↦ refl | false ↦ refl ]

    pub under_removed : AreUnder fs
    under_removed = record {
      ids = ids;
      under = λ q t h. elim (cases_Bool (bytes_eq id q)) [
        | inl e ↦ (let here : None ≡ Some t = sym (cites_left q ∙ ap (λ b. cond b None (cites_at es q)) e) ∙ h in cc)
        | inr n ↦ u.under q t (sym (cites_left q ∙ ap (λ b. cond b None (cites_at es q)) n) ∙ h)
      ];
    }

    pub cites_removed : cites_in fs ≡ without_id id (cites_in es)
    cites_removed =
        let s = sorted_in es u in
        one_list (cites_in fs) (without_id id (cites_in es)) (sorted_in fs under_removed) (sorted_without id (cites_in es) s)
        (λ q. found_in fs under_removed q ∙ cites_left q ∙ ap (λ o. cond (bytes_eq id q) None o) (sym (found_in es u q)) ∙ sym (found_without id (cites_in es) q))

  -- where the cites alone are the same
  module _ (same : without_chats fs ≡ without_chats es) where
    pub cites_at_same : (q : Bytes) → cites_at fs q ≡ cites_at es q
    cites_at_same q = sym (looked_alone fs q) ∙ ap (lookup (bytes_eq q)) same ∙ looked_alone es q

    pub under_same : AreUnder fs
    under_same = record { ids = ids; under = λ q t h. u.under q t (sym (cites_at_same q) ∙ h) }

pub same_ids : (es fs : Entries) → without_chats fs ≡ without_chats es → IsStrictlySortedBy (slice_cmp nat_cmp) (keys_of es) → IsStrictlySortedBy (slice_cmp nat_cmp) (keys_of fs)
same_ids es fs same s = subst (IsStrictlySortedBy (slice_cmp nat_cmp)) (sym (sym (keys_alone fs) ∙ ap (map (λ p. p.0)) same ∙ keys_alone es)) s
