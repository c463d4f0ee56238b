-- The spots of the present cards, entry by entry.
use Rattle.std.proofs.Common.{◌≡◌, refl, sym, ap, ◌∙◌, subst, ℕ, zero, suc, ◌+◌, ◌<◌, ◌≤◌, Bool, true, false, ◌||◌, cond, Option, Some, None, is_some, List, [], ◌∷◌, map, length, take, get_or, arith}
use Rattle.std.specs.Prelude.{◌==◌, find, option_map}
use Rattle.std.specs.BTreeSet.{BTreeSet, contains, IsOrdered}
use Rattle.std.specs.List.{AllByRecursion, list_any, slice_get}
use Rattle.std.specs.List.Sorted.{IsStrictlySortedBy}
use Rattle.std.specs.Option.{option_map_or}
use Rattle.std.specs.Ordering.{eq_by_cmp}
use Rattle.std.specs.declared.cmp.Ordering.TheVariants.{Less}
use Rattle.std.proofs.lemmas.Bool.{eqb-true}
use Rattle.std.proofs.lemmas.Cmp.{eq_by_cmp_equiv}
use Rattle.std.proofs.lemmas.List.{take_all, take_more, length-map}
use Rattle.std.proofs.lemmas.List.Folds.{list_any-append}
use Rattle.std.proofs.lemmas.Map.Lookups.{btree_set_from_contains}
use Rattle.std.proofs.lemmas.Option.{slice_get-map, slice_get-get_or, slice_get_within, get_or_from_slice_get}
use Rattle.kit.specs.Options.{◌>>=◌}
use Rattle.lists.proofs.Inserts.{agree, found_all, found_passes, list_any-found}
use Rattle.card_type.specs.declared.spot.Spot.{Spot}
use Rattle.card_type.specs.Spots.{spot_cmp}
use Rattle.card_type.proofs.Orders.{spots_total, spots_exact}
use Rattle.mailbox_model.specs.declared.item.Item.{Item}
use Rattle.mailbox_model.specs.Mailbox.{Mailbox, Entry, IsMailbox, entry_at, has_uid, item_of}
use Rattle.mailbox_model.specs.Present.{Placed, Mail, mail_cmp, mail_of, spot, present}
use Rattle.mailbox_model.proofs.PresentLaws.{present_sorted}
use Rattle.mailbox_model.proofs.UidLaws.{each_found}
use Rattle.indexes.specs.Kept.{present_at}
use Rattle.indexes.proofs.Mails.{IsPresent, each_present, one_of}
use Rattle.indexes.proofs.PresentAt.{found_any, list_any-map, own_spot}

abbrev pub ties : Spot → Spot → Bool
ties = eq_by_cmp spot_cmp

-- the spot of the present card with the uid of an entry ties with this one
abbrev has_spot : Mailbox → Spot → Entry → Bool
has_spot m q entry = option_map_or (ties q) (option_map spot (present_at m entry.uid)) false

abbrev pub has_card : Entry → Bool
has_card entry = is_some (mail_of entry)

-- of some entries: these are the spots of their present cards, in order
pub record AreSpots (m : Mailbox) (entries : List Entry) (spots : BTreeSet Spot) : Type 0 where
  pub each : (q : Spot) → contains spot_cmp spots q ≡ list_any (has_spot m q) entries
  pub ordered : IsOrdered spot_cmp spots

-- ---- the next item

-- the entry of the item at an index
pub record IsNext (m : Mailbox) (i : ℕ) (item : Item) : Type 0 where
  pub entry : Entry
  pub at : slice_get m.entries i ≡ Some entry
  pub is : item_of entry ≡ item

pub next : (m : Mailbox) (items : List Item) (i : ℕ) (d : Item) → items ≡ map item_of m.entries → i < length items → IsNext m i (get_or items i d)
next m items i d are lt =
    by (slice_get m.entries i) refl
    (sym (slice_get-map item_of m.entries i) ∙ ap (λ xs. slice_get xs i) (sym are) ∙ slice_get-get_or items i d lt)
  where
    by : (o : Option Entry) → slice_get m.entries i ≡ o → option_map item_of o ≡ Some (get_or items i d) → IsNext m i (get_or items i d)
    by None k h = cc
    by (Some e) k h = record { entry = e; at = k; is = cc }

one_in : {X : Type 0} (P : X → Type 0) (xs : List X) (i : ℕ) (x : X) → AllByRecursion P xs → slice_get xs i ≡ Some x → P x
one_in P [] i x a h = cc
one_in P (y ∷ ys) zero x a h = let same : y ≡ x = cc in subst P same a.0
one_in P (y ∷ ys) (suc i) x a h = one_in P ys i x a.1 h

module _ (m : Mailbox) (rules : IsMailbox m) (i : ℕ) {item : Item} (is : IsNext m i item) where
  found : entry_at m is.entry.uid ≡ Some is.entry
  found = one_in (λ e. entry_at m e.uid ≡ Some e) m.entries i is.entry (each_found 1 m.next_uid m.entries rules.uids) is.at

  same_uid : is.entry.uid ≡ item.uid
  same_uid = ap (λ x. x.uid) is.is

  one_more : (q : Spot) → list_any (has_spot m q) (take (i + 1) m.entries)
      ≡ (list_any (has_spot m q) (take i m.entries) || (option_map_or (ties q) (option_map spot (present_at m item.uid)) false || false))
  one_more q =
      ap (list_any (has_spot m q)) (take_more m.entries i is.entry (slice_get_within m.entries i is.entry is.at))
      ∙ list_any-append (has_spot m q) (take i m.entries) (get_or m.entries i is.entry ∷ [])
      ∙ ap (λ e. list_any (has_spot m q) (take i m.entries) || (has_spot m q e || false)) (get_or_from_slice_get m.entries i is.entry is.entry is.at)
      ∙ ap (λ uid. list_any (has_spot m q) (take i m.entries) || (option_map_or (ties q) (option_map spot (present_at m uid)) false || false)) same_uid

  -- the item has none
  pub spots_kept : (spots : BTreeSet Spot) → option_map spot (present_at m item.uid) ≡ None → AreSpots m (take i m.entries) spots
      → AreSpots m (take (i + 1) m.entries) spots
  spots_kept spots none are = record {
    each = λ q.
        are.each q ∙ or_none (list_any (has_spot m q) (take i m.entries))
        ∙ sym (one_more q ∙ ap (λ o. list_any (has_spot m q) (take i m.entries) || (option_map_or (ties q) o false || false)) none);
    ordered = are.ordered;
  }
    where
      or_none : (b : Bool) → b ≡ (b || (false || false))
      or_none true = refl
      or_none false = refl

  -- the spot of the item is put in
  pub spots_more : (before after : BTreeSet Spot) (s : Spot) → option_map spot (present_at m item.uid) ≡ Some s → AreSpots m (take i m.entries) before
      → ((q : Spot) → contains spot_cmp after q ≡ cond (ties s q) true (contains spot_cmp before q)) → IsOrdered spot_cmp after
      → AreSpots m (take (i + 1) m.entries) after
  spots_more before after s some are put ordered = record {
    each = λ q.
        put q ∙ or_put (ties s q) (contains spot_cmp before q)
        ∙ (λ j. are.each q j || ((eq_by_cmp_equiv spots_total).symm s q j || false))
        ∙ sym (one_more q ∙ ap (λ o. list_any (has_spot m q) (take i m.entries) || (option_map_or (ties q) o false || false)) some);
    ordered = ordered;
  }
    where
      or_put : (b c : Bool) → cond b true c ≡ (c || (b || false))
      or_put true true = refl
      or_put true false = refl
      or_put false true = refl
      or_put false false = refl

-- ---- all items

abbrev spots_of : List Mail → List Spot
spots_of ts = map (λ t. spot t.placed) ts

spots_rise : (ts : List Mail) → IsStrictlySortedBy mail_cmp ts → IsStrictlySortedBy spot_cmp (spots_of ts)
unfolding IsStrictlySortedBy
spots_rise [] r = tt
spots_rise (t ∷ ts) r = (below ts r.0, spots_rise ts r.1)
  where
    below : (us : List Mail) → AllByRecursion (λ u. mail_cmp t u ≡ Less) us → AllByRecursion (λ s. spot_cmp (spot t.placed) s ≡ Less) (spots_of us)
    below [] a = tt
    below (u ∷ us) a = (a.0, below us a.1)

module _ (m : Mailbox) (rules : IsMailbox m) where
  -- a present mail is that of an entry
  to_entry : (q : Spot) → list_any (ties q) (spots_of (present m)) ≡ true → list_any (has_spot m q) m.entries ≡ true
  to_entry q h =
      let t = one_of (find (λ t. ties q (spot t.placed)) (present m)) (sym (list_any-found (λ t. ties q (spot t.placed)) (present m)) ∙ sym (list_any-map (λ t. spot t.placed) (ties q) (present m)) ∙ h) in
      let here = found_all (IsPresent m) (λ t. ties q (spot t.placed)) (present m) t.0 (each_present m rules) t.1 in
      let own = own_spot m rules t.0.placed.uid t.0 here.mail (spot t.0.placed) (ap (option_map (λ u. spot u.placed)) here.first) refl in
      by t.0 own (found_passes (λ t. ties q (spot t.placed)) (present m) t.0 t.1) (entry_at m t.0.placed.uid) refl here.mail
    where
      by : (t : Mail) → option_map spot (present_at m t.placed.uid) ≡ Some (spot t.placed) → ties q (spot t.placed) ≡ true
          → (o : Option Entry) → entry_at m t.placed.uid ≡ o → (o >>= mail_of) ≡ Some t → list_any (has_spot m q) m.entries ≡ true
      by t own tie None k is = cc
      by t own tie (Some e) k is =
          let uid = eqb-true e.uid t.placed.uid (found_passes (has_uid t.placed.uid) m.entries e k) in
          found_any (has_uid t.placed.uid) (has_spot m q) m.entries e k
          (ap (λ n. option_map_or (ties q) (option_map spot (present_at m n)) false) uid ∙ ap (λ o. option_map_or (ties q) o false) own ∙ tie)

  -- what an entry has is the spot of a present mail
  from_entry : (q : Spot) → list_any (has_spot m q) m.entries ≡ true → list_any (ties q) (spots_of (present m)) ≡ true
  from_entry q h =
      let e = one_of (find (has_spot m q) m.entries) (sym (list_any-found (has_spot m q) m.entries) ∙ h) in
      by e.0.uid (present_at m e.0.uid) refl (found_passes (has_spot m q) m.entries e.0 e.1)
    where
      by : (uid : ℕ) (o : Option Placed) → present_at m uid ≡ o → option_map_or (ties q) (option_map spot o) false ≡ true
          → list_any (ties q) (spots_of (present m)) ≡ true
      by uid None k tie = cc
      by uid (Some p) k tie =
          list_any-map (λ t. spot t.placed) (ties q) (present m)
          ∙ sym (list_any-map (λ t. t.placed) (λ r. ties q (spot r)) (present m))
          ∙ found_any (λ r. r.uid == uid) (λ r. ties q (spot r)) (map (λ t. t.placed) (present m)) p k tie

  pub all_spots : (items : List Item) (i : ℕ) (spots : BTreeSet Spot) → items ≡ map item_of m.entries → length items ≤ i
      → AreSpots m (take i m.entries) spots → spots.keys ≡ spots_of (present m)
  all_spots items i spots are end so_far =
      let size : length items ≡ length m.entries = ap length are ∙ length-map m.entries item_of in
      let whole : take i m.entries ≡ m.entries = take_all i m.entries (omega (arith, size, end)) in
      btree_set_from_contains spots_total spots (record { keys = spots_of (present m) }) so_far.ordered (spots_rise (present m) (present_sorted m rules.uids))
      (λ q. so_far.each q ∙ ap (list_any (has_spot m q)) whole ∙ agree (list_any (has_spot m q) m.entries) (list_any (ties q) (spots_of (present m))) (from_entry q) (to_entry q))
      spots_exact
