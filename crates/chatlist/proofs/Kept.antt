-- Chats in order, each under its key.
use Rattle.std.proofs.Common.{◌≡◌, ◌≢◌, refl, sym, ap, ◌∙◌, subst, ℕ, zero, suc, ◌<◌, ◌≤◌, Bool, true, false, not, cond, Option, Some, None, List, [], ◌∷◌, length, take, drop, get_or, add-one, ◌+◌, arith}
use Rattle.std.specs.Prelude.{if◌then◌else◌}
use Rattle.std.specs.FinMap as fin
use Rattle.std.specs.BTreeMap.{is_at}
use Rattle.std.specs.List.{AllByRecursion, IsDistinct, insert, remove, zip}
use Rattle.std.specs.List.Sorted.{IsStrictlySortedBy}
use Rattle.std.specs.Map.{lookup}
use Rattle.std.specs.Ordering.{is_eq, is_lt}
use Rattle.std.specs.declared.cmp.Ordering.{Ordering}
use Rattle.std.specs.declared.cmp.Ordering.TheVariants.{Less, Equal, Greater}
use Rattle.std.specs.Cmp.{IsTotalOrder}
use Rattle.std.specs.Cmp.Lexicographic.{options_total}
use Rattle.std.proofs.lemmas.Bool.{both_ways, false≢true}
use Rattle.std.proofs.lemmas.Cmp.{on_total, then_total, back_total, nat_cmp_total, tied_itself}
use Rattle.std.proofs.lemmas.Map.Entries.{lookup-filter-keys}
use Rattle.std.proofs.Math.Seq.{drop-length}
use Rattle.std.proofs.lemmas.List.Edits.{length-insert, length-remove}
use Rattle.card_type.specs.declared.key.ChatKey.{ChatKey}
use Rattle.card_type.specs.Keys.{key_cmp, key_eq}
use Rattle.card_type.proofs.Orders.{keys_total, keys_exact}
use Rattle.lists.specs.Sorted.{insert_by}
use Rattle.lists.proofs.DistinctLaws.{IsDistinct-filter}
use Rattle.lists.proofs.Inserts.{agree, None_of, none_filtered, filter_none, Placed, Rising-insert_by, IsDistinct-insert_by}
use Rattle.lists.proofs.Maps.{get_is, insert_is, remove_is}
use Rattle.lists.proofs.Rising.{Above, Rising, Rising-filter, apart, below_of, insert_by-above, never_back, second_Equal, sorted_from}
use Rattle.mailbox_model.specs.ChatList.{Dated, dated_cmp, latest_cmp}
use Rattle.mailbox_model.proofs.ListLaws.{key_same, key_self, key_turn}
use Rattle.chatlist.specs.Places.{without_key, with_place}
use Rattle.chatlist.specs.Orders.{same_key, IsPlaceOf}
use Rattle.chatlist.proofs.Searches.{All_before, None_before, lower, upper, insert_here}
use Rattle.chatlist.proofs.Zips.{length_zip, zipped_at, zip_insert, zip_remove}

pub dates_total : IsTotalOrder dated_cmp
dates_total = then_total (on_total (λ (d : Dated). d.1) (back_total (options_total nat_cmp_total))) (on_total (λ (d : Dated). d.0) keys_total)

-- ---- keys that tie are alike

is_Equal : (o : Ordering) → is_eq o ≡ true → o ≡ Equal
is_Equal Less e = absurd (false≢true e)
is_Equal Equal e = refl
is_Equal Greater e = absurd (false≢true e)

one_key : (a b : ChatKey) → is_at (key_cmp a) b ≡ true → a ≡ b
one_key a b e = keys_exact a b (is_Equal (key_cmp a b) e)

tied : (a b : ChatKey) → is_at (key_cmp a) b ≡ key_eq a b
tied a b =
    agree (is_at (key_cmp a) b) (key_eq a b) (λ e. subst (λ c. key_eq a c ≡ true) (one_key a b e) (key_self a))
    (λ e. subst (λ c. is_at (key_cmp a) c ≡ true) (key_same a b e) (ap is_eq (tied_itself keys_total a)))

-- has the key
abbrev pub of_key : ChatKey → Dated → Bool
of_key key d = key_eq key d.0

-- ---- a key that is sought

is_it : (key : ChatKey) (date : Option ℕ) (e : Dated) → is_at (key_cmp key) e.0 ≡ true → Some e.1 ≡ Some date → e ≡ (key, date)
is_it key date e same k =
    let keys : e.0 ≡ key = sym (one_key key e.0 same) in
    let dates : e.1 ≡ date = cc in
    λ i. (keys i, dates i)

-- what holds of each holds of the one that is found
found : (P : Dated → Type 0) (key : ChatKey) (date : Option ℕ) (ds : List Dated) → lookup (is_at (key_cmp key)) ds ≡ Some date → AllByRecursion P ds → P (key, date)
found P key date [] h all = cc
found P key date (e ∷ ds) h all =
    elim (is_at (key_cmp key) e.0) as (λ b. is_at (key_cmp key) e.0 ≡ b → cond b (Some e.1) (lookup (is_at (key_cmp key)) ds) ≡ Some date → P (key, date)) [
      | true ↦ λ same k. subst P (is_it key date e same k) all.0
      | false ↦ λ _ k. found P key date ds k all.1
    ] refl h

-- one that is not found is not there
pub none_found : (key : ChatKey) (ds : List Dated) → lookup (is_at (key_cmp key)) ds ≡ None → None_of (of_key key) ds
none_found key [] h = tt
none_found key (e ∷ ds) h =
    elim (is_at (key_cmp key) e.0) as (λ b. is_at (key_cmp key) e.0 ≡ b → cond b (Some e.1) (lookup (is_at (key_cmp key)) ds) ≡ None → None_of (of_key key) (e ∷ ds)) [
      | true ↦ λ _ k. cc
      | false ↦ λ other k. (sym (tied key e.0) ∙ other, none_found key ds k)
    ] refl h

-- it does not come before itself
not_below : (key : ChatKey) (date : Option ℕ) (e : Dated) → is_at (key_cmp key) e.0 ≡ true → Some e.1 ≡ Some date → is_lt (dated_cmp e (key, date)) ≡ false
not_below key date e same k = subst (λ d. is_lt (dated_cmp e d) ≡ false) (is_it key date e same k) (ap is_lt (tied_itself dates_total e))

-- ---- a chat is taken out

pub removed : (key : ChatKey) (date : Option ℕ) (ds : List Dated) (i : ℕ) → lookup (is_at (key_cmp key)) ds ≡ Some date
    → IsStrictlySortedBy dated_cmp ds → IsDistinct same_key ds
    → All_before dated_cmp dates_total (key, date) (take i ds) → None_before dated_cmp dates_total (key, date) (drop i ds)
    → (i < length ds) × (remove ds i ≡ without_key key ds)
unfolding IsStrictlySortedBy IsDistinct
removed key date [] i h rises once before after = cc
removed key date (e ∷ ds) zero h rises once before after =
    elim (is_at (key_cmp key) e.0) as (λ b. is_at (key_cmp key) e.0 ≡ b → cond b (Some e.1) (lookup (is_at (key_cmp key)) ds) ≡ Some date → (0 < length (e ∷ ds)) × (ds ≡ without_key key (e ∷ ds))) [
      | true ↦ λ same k. (omega arith, rw (sym (tied key e.0) ∙ same) (sym (none_filtered (of_key key) ds (others same))))
      | false ↦ λ _ k. absurd (both_ways (is_lt (dated_cmp e (key, date))) after.0 (ap is_lt (found (λ d. dated_cmp e d ≡ Less) key date ds k rises.0)))
    ] refl h
  where
    others : is_at (key_cmp key) e.0 ≡ true → None_of (of_key key) ds
    others same = subst (λ k. None_of (of_key k) ds) (sym (one_key key e.0 same)) once.0
removed key date (e ∷ ds) (suc i) h rises once before after =
    elim (is_at (key_cmp key) e.0) as (λ b. is_at (key_cmp key) e.0 ≡ b → cond b (Some e.1) (lookup (is_at (key_cmp key)) ds) ≡ Some date → (suc i < length (e ∷ ds)) × (remove (e ∷ ds) (suc i) ≡ without_key key (e ∷ ds))) [
      | true ↦ λ same k. absurd (both_ways (is_lt (dated_cmp e (key, date))) (not_below key date e same k) before.0)
      | false ↦ λ other k.
          let rest = removed key date ds i k rises.1 once.1 before.1 after in
          (omega (arith, rest.0), rw (sym (tied key e.0) ∙ other) (ap (λ es. e ∷ es) rest.1))
    ] refl h

-- what stands at the index of the one that is sought
pub stands : (key : ChatKey) (date : Option ℕ) (ds : List Dated) (i : ℕ) → lookup (is_at (key_cmp key)) ds ≡ Some date → IsStrictlySortedBy dated_cmp ds
    → All_before dated_cmp dates_total (key, date) (take i ds) → None_before dated_cmp dates_total (key, date) (drop i ds)
    → get_or ds i (key, date) ≡ (key, date)
unfolding IsStrictlySortedBy
stands key date [] i h rises before after = refl
stands key date (e ∷ ds) zero h rises before after =
    elim (is_at (key_cmp key) e.0) as (λ b. is_at (key_cmp key) e.0 ≡ b → cond b (Some e.1) (lookup (is_at (key_cmp key)) ds) ≡ Some date → e ≡ (key, date)) [
      | true ↦ λ same k. is_it key date e same k
      | false ↦ λ _ k. absurd (both_ways (is_lt (dated_cmp e (key, date))) after.0 (ap is_lt (found (λ d. dated_cmp e d ≡ Less) key date ds k rises.0)))
    ] refl h
stands key date (e ∷ ds) (suc i) h rises before after =
    elim (is_at (key_cmp key) e.0) as (λ b. is_at (key_cmp key) e.0 ≡ b → cond b (Some e.1) (lookup (is_at (key_cmp key)) ds) ≡ Some date → get_or ds i (key, date) ≡ (key, date)) [
      | true ↦ λ same k. absurd (both_ways (is_lt (dated_cmp e (key, date))) (not_below key date e same k) before.0)
      | false ↦ λ _ k. stands key date ds i k rises.1 before.1 after
    ] refl h

-- ---- a chat that is at its place

above_all : (d : Dated) (es : List Dated) → AllByRecursion (λ e. dated_cmp d e ≡ Less) es → Above dated_cmp d es
above_all d [] a = tt
above_all d (e ∷ es) a = (ap is_lt a.0, above_all d es a.1)

pub kept_place : (key : ChatKey) (date : Option ℕ) (ds : List Dated) → lookup (is_at (key_cmp key)) ds ≡ Some date
    → IsStrictlySortedBy dated_cmp ds → IsDistinct same_key ds → with_place key date ds ≡ ds
unfolding IsStrictlySortedBy IsDistinct
kept_place key date [] h rises once = cc
kept_place key date (e ∷ ds) h rises once =
    elim (is_at (key_cmp key) e.0) as (λ b. is_at (key_cmp key) e.0 ≡ b → cond b (Some e.1) (lookup (is_at (key_cmp key)) ds) ≡ Some date → with_place key date (e ∷ ds) ≡ e ∷ ds) [
      | true ↦ λ same k. here same k
      | false ↦ λ other k. later other k (kept_place key date ds k rises.1 once.1)
    ] refl h
  where
    here : is_at (key_cmp key) e.0 ≡ true → Some e.1 ≡ Some date → with_place key date (e ∷ ds) ≡ e ∷ ds
    here same k =
        let is : e ≡ (key, date) = is_it key date e same k in
        let others : None_of (of_key key) ds = subst (λ d. None_of (of_key d.0) ds) is once.0 in
        let left : without_key key (e ∷ ds) ≡ ds = rw (sym (tied key e.0) ∙ same) (none_filtered (of_key key) ds others) in
        let above : Above dated_cmp (key, date) ds = subst (λ d. Above dated_cmp d ds) is (above_all e ds rises.0) in
        ap (insert_by dated_cmp (key, date)) left ∙ insert_by-above dated_cmp (key, date) ds above ∙ ap (λ d. d ∷ ds) (sym is)

    later : is_at (key_cmp key) e.0 ≡ false → lookup (is_at (key_cmp key)) ds ≡ Some date → with_place key date ds ≡ ds → with_place key date (e ∷ ds) ≡ e ∷ ds
    later other k rest =
        let before : dated_cmp e (key, date) ≡ Less = found (λ d. dated_cmp e d ≡ Less) key date ds k rises.0 in
        let not_before = never_back dated_cmp dates_total e (key, date) (ap is_lt before) in
        let kept : without_key key (e ∷ ds) ≡ e ∷ without_key key ds = rw (sym (tied key e.0) ∙ other) refl in
        ap (insert_by dated_cmp (key, date)) kept
        ∙ ap (λ b. if b then (key, date) ∷ e ∷ without_key key ds else e ∷ with_place key date ds) not_before
        ∙ ap (λ es. e ∷ es) rest

-- ---- what stays so

rising : (ds : List Dated) → IsStrictlySortedBy dated_cmp ds → Rising dated_cmp ds
unfolding IsStrictlySortedBy
rising [] h = tt
rising (d ∷ ds) h = (above_all d ds h.0, rising ds h.1)

-- one with another key does not tie
pub no_tie : (key : ChatKey) (date : Option ℕ) (ds : List Dated) → None_of (of_key key) ds → AllByRecursion (λ d. dated_cmp d (key, date) ≢ Equal) ds
no_tie key date [] none = tt
no_tie key date (d ∷ ds) none = (λ tie. other (second_Equal (latest_cmp d.1 date) (key_cmp d.0 key) tie), no_tie key date ds none.1)
  where
    other : key_cmp d.0 key ≡ Equal → ⊥
    other tie = both_ways (key_eq key d.0) none.0 (subst (λ k. key_eq k d.0 ≡ true) (keys_exact d.0 key tie) (key_self d.0))

placed : (key : ChatKey) (date : Option ℕ) (ds : List Dated) → None_of (of_key key) ds
    → Placed dated_cmp (below_of dated_cmp dates_total) (never_back dated_cmp dates_total) (key, date) ds
placed key date [] none = tt
placed key date (d ∷ ds) none = (apart dated_cmp dates_total (key, date) d other, placed key date ds none.1)
  where
    other : dated_cmp (key, date) d ≢ Equal
    other tie = both_ways (key_eq key d.0) none.0 (subst (λ k. key_eq key k ≡ true) (keys_exact key d.0 (second_Equal (latest_cmp date d.1) (key_cmp key d.0) tie)) (key_self key))

module _ (key : ChatKey) (date : Option ℕ) (ds : List Dated) where
  pub sorted_with : None_of (of_key key) ds → IsStrictlySortedBy dated_cmp ds → IsStrictlySortedBy dated_cmp (insert_by dated_cmp (key, date) ds)
  sorted_with none rises =
      sorted_from dated_cmp dates_total (insert_by dated_cmp (key, date) ds)
      (Rising-insert_by dated_cmp (below_of dated_cmp dates_total) (never_back dated_cmp dates_total) (key, date) ds (placed key date ds none) (rising ds rises))

  pub once_with : None_of (of_key key) ds → IsDistinct same_key ds → IsDistinct same_key (insert_by dated_cmp (key, date) ds)
  once_with none once = IsDistinct-insert_by dated_cmp same_key (λ d e. key_turn d.0 e.0) (key, date) ds none once

  pub sorted_without : IsStrictlySortedBy dated_cmp ds → IsStrictlySortedBy dated_cmp (without_key key ds)
  sorted_without rises = sorted_from dated_cmp dates_total (without_key key ds) (Rising-filter dated_cmp (λ d. not (of_key key d)) ds (rising ds rises))

  pub once_without : IsDistinct same_key ds → IsDistinct same_key (without_key key ds)
  once_without once = IsDistinct-filter same_key (λ d. not (of_key key d)) ds once

-- ---- the dates by key

turned : {X : Type 0} (b : Bool) (x y : X) → cond (not b) x y ≡ cond b y x
turned true x y = refl
turned false x y = refl

lookup_without : (key : ChatKey) (ds : List Dated) (q : ChatKey) → lookup (is_at (key_cmp q)) (without_key key ds) ≡ cond (is_at (key_cmp key) q) None (lookup (is_at (key_cmp q)) ds)
lookup_without key ds q =
    lookup-filter-keys (is_at (key_cmp q)) (λ k. not (key_eq key k)) (not (key_eq key q)) (λ k e. ap (λ c. not (key_eq key c)) (sym (one_key q k e))) ds
    ∙ turned (key_eq key q) (lookup (is_at (key_cmp q)) ds) None
    ∙ ap (λ b. cond b None (lookup (is_at (key_cmp q)) ds)) (sym (tied key q))

lookup_with : (key : ChatKey) (date : Option ℕ) (ds : List Dated) (q : ChatKey) → None_of (of_key key) ds
    → lookup (is_at (key_cmp q)) (insert_by dated_cmp (key, date) ds) ≡ cond (is_at (key_cmp key) q) (Some date) (lookup (is_at (key_cmp q)) ds)
lookup_with key date ds q none = by ds none
  where
    turn : is_at (key_cmp q) key ≡ is_at (key_cmp key) q
    turn = tied q key ∙ key_turn q key ∙ sym (tied key q)

    front : (ds : List Dated) → lookup (is_at (key_cmp q)) ((key, date) ∷ ds) ≡ cond (is_at (key_cmp key) q) (Some date) (lookup (is_at (key_cmp q)) ds)
    front ds = ap (λ b. cond b (Some date) (lookup (is_at (key_cmp q)) ds)) turn

    swapped : (b c : Bool) (x y z : Option (Option ℕ)) → (c ≡ true → b ≡ false) → cond b x (cond c y z) ≡ cond c y (cond b x z)
    swapped true true x y z h = absurd (false≢true (sym (h refl)))
    swapped true false x y z h = refl
    swapped false c x y z h = refl

    by : (ds : List Dated) → None_of (of_key key) ds → lookup (is_at (key_cmp q)) (insert_by dated_cmp (key, date) ds) ≡ cond (is_at (key_cmp key) q) (Some date) (lookup (is_at (key_cmp q)) ds)
    by [] none = front []
    by (d ∷ ds) none =
        elim (is_lt (dated_cmp (key, date) d)) as (λ b. lookup (is_at (key_cmp q)) (if b then (key, date) ∷ d ∷ ds else d ∷ insert_by dated_cmp (key, date) ds) ≡ cond (is_at (key_cmp key) q) (Some date) (lookup (is_at (key_cmp q)) (d ∷ ds))) [
          | true ↦ front (d ∷ ds)
          | false ↦ ap (cond (is_at (key_cmp q) d.0) (Some d.1)) (by ds none.1)
              ∙ swapped (is_at (key_cmp q) d.0) (is_at (key_cmp key) q) (Some d.1) (Some date) (lookup (is_at (key_cmp q)) ds)
              (λ e. tied q d.0 ∙ subst (λ k. key_eq k d.0 ≡ false) (one_key key q e) none.0)
        ]

-- ---- keys and dates side by side

module _ (ks : List ChatKey) (vs : List (Option ℕ)) (chats : List Dated) (same : length ks ≡ length vs) (is : zip ks vs ≡ chats) where
  pub length_chats : length chats ≡ length ks
  length_chats = ap length (sym is) ∙ length_zip ks vs same

  pub none_past : (p : Dated) (n : ℕ) → n ≡ length ks → None_before dated_cmp dates_total p (drop n chats)
  none_past p n all = rw (all ∙ sym length_chats, drop-length chats) tt

  module _ (p : Dated) (i : ℕ) (k : ChatKey) (v : Option ℕ) (rises : IsStrictlySortedBy dated_cmp (zip ks vs)) (lt : i < length ks) (key : k ≡ get_or ks i k) (date : v ≡ get_or vs i v) where
    looked : get_or chats i (k, v) ≡ (k, v)
    looked = ap (λ ds. get_or ds i (k, v)) (sym is) ∙ zipped_at ks vs i k v same lt ∙ (λ j. (sym key j, sym date j))

    inside : i < length chats
    inside = let n = length_chats in omega arith

    pub all_up_to : is_lt (dated_cmp (k, v) p) ≡ true → All_before dated_cmp dates_total p (take (i + 1) chats)
    all_up_to h = rw add-one (lower dated_cmp dates_total p chats i (k, v) (subst (IsStrictlySortedBy dated_cmp) is rises) inside (rw looked h))

    pub none_from : is_lt (dated_cmp (k, v) p) ≡ false → None_before dated_cmp dates_total p (drop i chats)
    none_from h = upper dated_cmp dates_total p chats i (k, v) (subst (IsStrictlySortedBy dated_cmp) is rises) inside (rw looked h)

-- ---- the order after an edit

-- a chat is put in where it is not there
pub put_in : (ks : List ChatKey) (vs : List (Option ℕ)) (chats : List Dated) (key : ChatKey) (date : Option ℕ) (i : ℕ) → length ks ≡ length vs → zip ks vs ≡ chats
    → lookup (is_at (key_cmp key)) chats ≡ None → IsPlaceOf (key, date) chats i → zip (insert ks i key) (insert vs i date) ≡ insert_by dated_cmp (key, date) chats
put_in ks vs chats key date i same is none place =
    zip_insert ks vs i key date same ∙ ap (λ ds. insert ds i (key, date)) is
    ∙ insert_here dated_cmp dates_total (key, date) chats i (no_tie key date chats (none_found key chats none)) place.before place.after

-- a chat is taken out where it is there
module _ (ks : List ChatKey) (vs : List (Option ℕ)) (chats : List Dated) (key : ChatKey) (date : Option ℕ) (i : ℕ) (same : length ks ≡ length vs) (is : zip ks vs ≡ chats)
    (here : lookup (is_at (key_cmp key)) chats ≡ Some date) (rises : IsStrictlySortedBy dated_cmp (zip ks vs)) (once : IsDistinct same_key (zip ks vs)) (place : IsPlaceOf (key, date) chats i) where
  pub taken : (i < length chats) × (remove chats i ≡ without_key key chats)
  taken = removed key date chats i here (subst (IsStrictlySortedBy dated_cmp) is rises) (subst (IsDistinct same_key) is once) place.before place.after

  pub kept_at : i < length ks
  kept_at = let n = length_chats ks vs chats same is in omega (arith, taken.0)

  pub take_out : zip (remove ks i) (remove vs i) ≡ without_key key chats
  take_out = zip_remove ks vs i same ∙ ap (λ ds. remove ds i) is ∙ taken.1

-- what is kept of an order
abbrev pub IsKept : List ChatKey → List (Option ℕ) → Type 0
IsKept ks vs = (length ks ≡ length vs) × IsStrictlySortedBy dated_cmp (zip ks vs) × IsDistinct same_key (zip ks vs)

pub kept_with : (ks : List ChatKey) (vs : List (Option ℕ)) (chats : List Dated) (key : ChatKey) (date : Option ℕ) (i : ℕ) → IsKept ks vs → zip ks vs ≡ chats
    → lookup (is_at (key_cmp key)) chats ≡ None → i ≤ length chats → IsPlaceOf (key, date) chats i → IsKept (insert ks i key) (insert vs i date)
kept_with ks vs chats key date i kept is none bound place =
    let all = length_chats ks vs chats kept.0 is in
    let keys = length-insert ks i key (omega arith) in
    let dates = length-insert vs i date (omega (arith, kept.0)) in
    let absent = none_found key chats none in
    let order = put_in ks vs chats key date i kept.0 is none place in (
      omega (arith, keys, dates, kept.0),
      subst (IsStrictlySortedBy dated_cmp) (sym order) (sorted_with key date chats absent (subst (IsStrictlySortedBy dated_cmp) is kept.1)),
      subst (IsDistinct same_key) (sym order) (once_with key date chats absent (subst (IsDistinct same_key) is kept.2)),
    )

pub kept_without : (ks : List ChatKey) (vs : List (Option ℕ)) (chats : List Dated) (key : ChatKey) (date : Option ℕ) (i : ℕ) → IsKept ks vs → zip ks vs ≡ chats
    → lookup (is_at (key_cmp key)) chats ≡ Some date → IsPlaceOf (key, date) chats i → IsKept (remove ks i) (remove vs i)
kept_without ks vs chats key date i kept is here place =
    let at = kept_at ks vs chats key date i kept.0 is here kept.1 kept.2 place in
    let keys = length-remove ks i at in
    let dates = length-remove vs i (omega (arith, kept.0)) in
    let order = take_out ks vs chats key date i kept.0 is here kept.1 kept.2 place in (
      omega (arith, keys, dates, kept.0),
      subst (IsStrictlySortedBy dated_cmp) (sym order) (sorted_without key date chats (subst (IsStrictlySortedBy dated_cmp) is kept.1)),
      subst (IsDistinct same_key) (sym order) (once_without key date chats (subst (IsDistinct same_key) is kept.2)),
    )

-- what is left without a key does not have it
pub absent_left : (key : ChatKey) (chats : List Dated) → lookup (is_at (key_cmp key)) (without_key key chats) ≡ None
absent_left key chats = lookup_without key chats key ∙ ap (λ b. cond b None (lookup (is_at (key_cmp key)) chats)) (ap is_eq (tied_itself keys_total key))

-- nothing is left out where the key is not there
pub nothing_left : (key : ChatKey) (chats : List Dated) → lookup (is_at (key_cmp key)) chats ≡ None → chats ≡ without_key key chats
nothing_left key chats none = sym (none_filtered (of_key key) chats (none_found key chats none))

-- ---- the dates of an order, by key

module _ (dates : fin.FinMap key_cmp (Option ℕ)) (chats : List Dated) (is : dates ≡ fin.from_entries chats) (key : ChatKey) where
  pub date_of : lookup (is_at (key_cmp key)) chats ≡ fin.get dates key
  date_of = sym (ap (λ m. fin.get m key) is ∙ get_is keys_total chats key)

  pub dates_without : fin.remove dates key ≡ fin.from_entries (without_key key chats)
  dates_without = ap (λ m. fin.remove m key) is ∙ sym (remove_is keys_total keys_exact chats (without_key key chats) key (lookup_without key chats))

  none_left : None_of (of_key key) (without_key key chats)
  none_left = filter_none (of_key key) chats

  pub dates_with : (date : Option ℕ) → fin.insert dates key date ≡ fin.from_entries (with_place key date chats)
  dates_with date =
      ap (λ m. fin.insert m key date) is
      ∙ sym (insert_is keys_total keys_exact chats (with_place key date chats) key date (λ q. lookup_with key date (without_key key chats) q none_left ∙ ap (cond (is_at (key_cmp key) q) (Some date)) (lookup_without key chats q) ∙ once_more (is_at (key_cmp key) q) date (lookup (is_at (key_cmp q)) chats)))
    where
      once_more : {X : Type 0} (b : Bool) (x : X) (y : Option X) → cond b (Some x) (cond b None y) ≡ cond b (Some x) y
      once_more true x y = refl
      once_more false x y = refl
