-- The item at an index: what a search by uid finds, and what a removal or a mark there does.
use Rattle.std.proofs.Common.{◌≡◌, refl, sym, ap, ◌∙◌, subst, ℕ, zero, suc, ◌+◌, ◌<◌, ◌≤◌, ◌==◌, false, not, Some, None, Result, Ok, Err, List, [], ◌∷◌, map, length, get_or, slice_get, remove, set, arith}
use Rattle.std.specs.Prelude.{filter, find, option_map, IfSome, IfNone}
use Rattle.std.specs.Result.{result_ok}
use Rattle.std.specs.List.{AllByRecursion, HoldsAt}
use Rattle.std.specs.List.Sorted.{IsStrictlySortedBy, IsSearchInRange, IsBinarySearchResult}
use Rattle.std.specs.declared.cmp.Ordering.{Ordering}
use Rattle.std.specs.declared.cmp.Ordering.TheVariants.{Less, Equal}
use Rattle.std.specs.Ordering.{nat_cmp, eq_by_cmp, is_eq, on}
use Rattle.std.specs.Cmp.{IsTotalOrder}
use Rattle.std.proofs.lemmas.Bool.{eq-eqb, ne_eqb}
use Rattle.std.proofs.lemmas.Bool.Decides.{nat_tests}
use Rattle.std.proofs.lemmas.Cmp.{nat_cmp_total, on_total}
use Rattle.std.proofs.lemmas.List.{length-map}
use Rattle.std.proofs.lemmas.Map.Lookups.{exact_unsigned}
use Rattle.lists.proofs.Inserts.{None_of, none_found, none_filtered}
use Rattle.lists.proofs.Searches as searches
use Rattle.mailbox_model.specs.declared.item.Item.{Item}
use Rattle.mailbox_model.specs.declared.item.Held.TheVariants as is_held
use Rattle.mailbox_model.specs.Mailbox.{Mailbox, Entry, item_of, has_uid, entry_at, item_at, marked_at, RiseBelow}
use Rattle.box_state.specs.Entries.{IsEntryAt}
use Rattle.box_state.proofs.Entries.{none_above, mark_item}

-- an entry of the list has a uid from there on
from_low : (low next : ℕ) (entries : List Entry) (i : ℕ) (e : Entry) → RiseBelow low entries next → slice_get entries i ≡ Some e → low ≤ e.uid
from_low low next [] i e r h = cc
from_low low next (x ∷ xs) zero e r h = let same : x ≡ e = cc in subst (λ y. low ≤ y.uid) same r.0
from_low low next (x ∷ xs) (suc i) e r h = (let k = from_low (x.uid + 1) next xs i e r.1 h in let l : low ≤ x.uid = r.0 in omega (arith, k))

none_item : (uid : ℕ) (entries : List Entry) → None_of (has_uid uid) entries → None_of (λ item. item.uid == uid) (map item_of entries)
none_item uid [] n = tt
none_item uid (e ∷ es) n = (n.0, none_item uid es n.1)

marks_none : (uid moment : ℕ) (items : List Item) → None_of (λ item. item.uid == uid) items → map (mark_item uid moment) items ≡ items
marks_none uid moment [] n = refl
marks_none uid moment (x ∷ xs) n = rw n.0 (ap (λ ys. x ∷ ys) (marks_none uid moment xs n.1))

module _ (next : ℕ) where
  pub found_at : (low : ℕ) (entries : List Entry) (i : ℕ) (e : Entry) → RiseBelow low entries next → slice_get entries i ≡ Some e
      → find (has_uid e.uid) entries ≡ Some e
  found_at low [] i e r h = cc
  found_at low (x ∷ xs) zero e r h = let same : x ≡ e = cc in rw same (rw (eq-eqb e.uid e.uid refl) refl)
  found_at low (x ∷ xs) (suc i) e r h =
      rw (ne_eqb x.uid e.uid (λ k. omega (arith, k, from_low (x.uid + 1) next xs i e r.1 h))) (found_at (x.uid + 1) xs i e r.1 h)

  pub left_at : (low : ℕ) (entries : List Entry) (i : ℕ) (e : Entry) → RiseBelow low entries next → slice_get entries i ≡ Some e
      → remove (map item_of entries) i ≡ filter (λ item. not (item.uid == e.uid)) (map item_of entries)
  left_at low [] i e r h = cc
  left_at low (x ∷ xs) zero e r h =
      let same : x ≡ e = cc in
      let others = none_item x.uid xs (none_above x.uid (x.uid + 1) next xs r.1 (omega arith)) in
      subst (λ y. map item_of xs ≡ filter (λ item. not (item.uid == y.uid)) (item_of x ∷ map item_of xs)) same
      (sym (rw (eq-eqb x.uid x.uid refl) (none_filtered (λ item. item.uid == x.uid) (map item_of xs) others)))
  left_at low (x ∷ xs) (suc i) e r h =
      let other = ne_eqb x.uid e.uid (λ k. omega (arith, k, from_low (x.uid + 1) next xs i e r.1 h)) in
      ap (λ ys. item_of x ∷ ys) (left_at (x.uid + 1) xs i e r.1 h) ∙ sym (rw other refl)

  pub mark_at : (moment low : ℕ) (entries : List Entry) (i : ℕ) (e : Entry) → RiseBelow low entries next → slice_get entries i ≡ Some e
      → set (map item_of entries) i (record (item_of e) { seen = marked_at moment e.seen }) ≡ map (mark_item e.uid moment) (map item_of entries)
  mark_at moment low [] i e r h = cc
  mark_at moment low (x ∷ xs) zero e r h =
      let same : x ≡ e = cc in
      let others = none_item x.uid xs (none_above x.uid (x.uid + 1) next xs r.1 (omega arith)) in
      subst (λ y. record (item_of y) { seen = marked_at moment y.seen } ∷ map item_of xs ≡ mark_item y.uid moment (item_of x) ∷ map (mark_item y.uid moment) (map item_of xs)) same
      (sym (rw (eq-eqb x.uid x.uid refl) (ap (λ ys. record (item_of x) { seen = marked_at moment x.seen } ∷ ys) (marks_none x.uid moment (map item_of xs) others))))
  mark_at moment low (x ∷ xs) (suc i) e r h =
      let other = ne_eqb x.uid e.uid (λ k. omega (arith, k, from_low (x.uid + 1) next xs i e r.1 h)) in
      ap (λ ys. item_of x ∷ ys) (mark_at moment (x.uid + 1) xs i e r.1 h) ∙ sym (rw other refl)

-- an item that is there has an index
pub in_range : (entries : List Entry) (i : ℕ) (e : Entry) → slice_get entries i ≡ Some e → i < length (map item_of entries)
in_range [] i e h = cc
in_range (x ∷ xs) zero e h = omega arith
in_range (x ∷ xs) (suc i) e h = omega (arith, in_range xs i e h)

pub item_read : (entries : List Entry) (i : ℕ) (e : Entry) (d : Item) → slice_get entries i ≡ Some e → get_or (map item_of entries) i d ≡ item_of e
item_read [] i e d h = cc
item_read (x ∷ xs) zero e d h = let same : x ≡ e = cc in ap item_of same
item_read (x ∷ xs) (suc i) e d h = item_read xs i e d h

-- ---- a search by uid

abbrev by_uid : Item → Item → Ordering
by_uid = on (λ item. item.uid) nat_cmp

by_uid_total : IsTotalOrder by_uid
by_uid_total = on_total (λ item. item.uid) nat_cmp_total

-- some item with that uid, to compare with
abbrev sought : ℕ → Item
sought uid = record { uid = uid; arrival = 0; seen = None; held = is_held.Card }

all_less : (low next : ℕ) (item : Item) (entries : List Entry) → RiseBelow low entries next → item.uid < low
    → AllByRecursion (λ y. by_uid item y ≡ Less) (map item_of entries)
all_less low next item [] r h = tt
all_less low next item (e ∷ es) r h =
    (let k : low ≤ e.uid = r.0 in let less : item.uid < e.uid = omega arith in grind (arith, nat_tests, less), all_less (e.uid + 1) next item es r.1 (let k : low ≤ e.uid = r.0 in omega arith))

items_rise : (low next : ℕ) (entries : List Entry) → RiseBelow low entries next → IsStrictlySortedBy by_uid (map item_of entries)
unfolding IsStrictlySortedBy
items_rise low next [] r = tt
items_rise low next (e ∷ es) r = (all_less (e.uid + 1) next (item_of e) es r.1 (omega arith), items_rise (e.uid + 1) next es r.1)

entry_there : (m : Mailbox) (i uid : ℕ) → i < length m.entries → HoldsAt (λ item. nat_cmp item.uid uid ≡ Equal) (map item_of m.entries) i
    → IsEntryAt m uid i
entry_there m i uid h at = record { entry = (by m.entries i h at).entry; there = (by m.entries i h at).there; named = (by m.entries i h at).named }
  where
    by : (entries : List Entry) (i : ℕ) → i < length entries → HoldsAt (λ item. nat_cmp item.uid uid ≡ Equal) (map item_of entries) i
        → record { entry : Entry; there : slice_get entries i ≡ Some entry; named : entry.uid ≡ uid }
    by [] i h at = absurd (omega (arith, h))
    by (e ∷ es) zero h at = record { entry = e; there = refl; named = let same = at (item_of e) in exact_unsigned e.uid uid same }
    by (e ∷ es) (suc i) h at = by es i (omega (arith, h)) (λ d. at d)

none_there : (uid : ℕ) (entries : List Entry) → None_of (eq_by_cmp by_uid (sought uid)) (map item_of entries) → None_of (has_uid uid) entries
none_there uid [] n = tt
none_there uid (e ∷ es) n = (let k : is_eq (nat_cmp uid e.uid) ≡ false = n.0 in grind (arith, nat_tests, k), none_there uid es n.1)

-- what a search among the items of a mailbox finds
pub searched : (m : Mailbox) (uid : ℕ) (items : List Item) (r : Result ℕ ℕ) → RiseBelow 1 m.entries m.next_uid → map item_of m.entries ≡ items
    → IsSearchInRange r (length items) → IsBinarySearchResult (λ item. nat_cmp item.uid uid) items r
    → record { found : IfSome (result_ok r) (IsEntryAt m uid); none : IfNone (result_ok r) (item_at m uid ≡ None) }
searched m uid items r rises same range found =
    by r (subst (λ is. IsSearchInRange r (length is)) (sym same) range) (subst (λ is. IsBinarySearchResult (λ item. nat_cmp item.uid uid) is r) (sym same) found)
  where
    by : (r : Result ℕ ℕ) → IsSearchInRange r (length (map item_of m.entries)) → IsBinarySearchResult (λ item. nat_cmp item.uid uid) (map item_of m.entries) r
        → record { found : IfSome (result_ok r) (IsEntryAt m uid); none : IfNone (result_ok r) (item_at m uid ≡ None) }
    by (Ok i) range found =
        let below : i < length m.entries = subst (λ n. i < n) (length-map m.entries item_of) range in
        record { found = entry_there m i uid below found; none = tt }
    by (Err i) range parted =
        let sorted = items_rise 1 m.next_uid m.entries rises in
        let point = parted (searches.comparisons_rise by_uid by_uid_total (sought uid) (map item_of m.entries) sorted) in
        record {
          found = tt;
          none = ap (option_map item_of) (none_found (has_uid uid) m.entries (none_there uid m.entries (searches.none_found by_uid by_uid_total (sought uid) (map item_of m.entries) i range point)));
        }

-- ---- what is at the index of a uid

module _ (m : Mailbox) (rises : RiseBelow 1 m.entries m.next_uid) (items : List Item) (same : map item_of m.entries ≡ items)
    (uid i : ℕ) (at : IsEntryAt m uid i) where
  pub entry_is : entry_at m uid ≡ Some at.entry
  entry_is = subst (λ u. entry_at m u ≡ Some at.entry) at.named (found_at m.next_uid 1 m.entries i at.entry rises at.there)

  pub index_fits : i < length items
  index_fits = subst (λ is. i < length is) same (in_range m.entries i at.entry at.there)

  pub item_is : (x : Item) → x ≡ get_or items i x → x ≡ item_of at.entry
  item_is x h = h ∙ ap (λ is. get_or is i x) (sym same) ∙ item_read m.entries i at.entry x at.there

  pub item_found : (x : Item) → x ≡ get_or items i x → Some x ≡ item_at m uid
  item_found x h = ap Some (item_is x h) ∙ sym (ap (option_map item_of) entry_is)

  pub items_left : remove items i ≡ filter (λ item. not (item.uid == uid)) items
  items_left =
      subst (λ u. remove items i ≡ filter (λ item. not (item.uid == u)) items) at.named
      (subst (λ is. remove is i ≡ filter (λ item. not (item.uid == at.entry.uid)) is) same (left_at m.next_uid 1 m.entries i at.entry rises at.there))

  pub items_marked : (moment : ℕ) → set items i (record (item_of at.entry) { seen = marked_at moment at.entry.seen }) ≡ map (mark_item uid moment) items
  items_marked moment =
      subst (λ u. set items i (record (item_of at.entry) { seen = marked_at moment at.entry.seen }) ≡ map (mark_item u moment) items) at.named
      (subst (λ is. set is i (record (item_of at.entry) { seen = marked_at moment at.entry.seen }) ≡ map (mark_item at.entry.uid moment) is) same (mark_at m.next_uid moment 1 m.entries i at.entry rises at.there))
