-- What is kept once cites come or go, and the list of work with which that begins.
use Rattle.std.proofs.Common.{Bor, ◌≡◌, refl, sym, ap, ◌∙◌, subst, Bool, true, false, not, ◌||◌, ◌&&◌, cond, Option, Some, None, is_some, Result, Ok, Err, IfOk, List, [], ◌∷◌, ◌++◌, ◌⊎◌, inl, inr}
use Rattle.std.specs.Prelude.{if◌then◌else◌, OnOk}
use Rattle.std.specs.List.{find, list_any, AllByRecursion, cons_option}
use Rattle.std.specs.List.Sorted.{IsStrictlySortedBy}
use Rattle.std.specs.Option.{option_map, option_and_then, option_copied}
use Rattle.std.specs.Ordering.{nat_cmp, is_lt}
use Rattle.std.specs.Cmp.Lexicographic.{slice_cmp, bytes_decides}
use Rattle.std.specs.Map.{lookup, keys_of}
use Rattle.std.specs.BTreeMap.{is_at}
use Rattle.std.specs.Str.{bytes_eq}
use Rattle.std.proofs.lemmas.Bool.{both_ways, cases_Bool, false≢true}
use Rattle.lists.specs.Sorted.{insert_by}
use Rattle.lists.proofs.Inserts.{None_of, none_filtered, list_any-insert_by}
use Rattle.lists.proofs.Rising.{Rising, sorted_from}
use Rattle.lists.specs.Ordered.{Ordered, values_at}
use Rattle.card_type.specs.declared.key.ChatKey.{ChatKey}
use Rattle.card_type.specs.declared.spot.Spot.{Spot}
use Rattle.card_type.specs.Effects.{is_among}
use Rattle.card_type.specs.Spots.{spot_cmp}
use Rattle.mailbox_model.specs.declared.links.Cites.{Cites}
use Rattle.mailbox_model.specs.declared.links.Moved.{Moved}
use Rattle.mailbox_model.specs.Lists.{Bytes}
use Rattle.mailbox_model.specs.Chats.{cites_cmp, is_id_among, DistinctIds, chat_among, moved}
use Rattle.mailbox_model.proofs.ChatLaws.{is_some-known_chat}
use Rattle.thread_links.specs.declared.kept.Kept.{Kept}
use Rattle.thread_links.specs.Linked.{citing, without_id}
use Rattle.thread_links.specs.Kept.{Entries, kept_at, cites_at, chat_in, cites_in, without_chats, IsIndex, IsSettled}
use Rattle.thread_links.specs.Work.{has_id, is_before, is_later_of, IsWorking, IsBegun}
use Rattle.thread_links.proofs.Citing.{ties, but}
use Rattle.thread_links.proofs.CitedLaws.{spots_of, cited_inserted, cited_removed, all_listed, ties_self}
use Rattle.thread_links.proofs.KeptLaws.{changed}
use Rattle.thread_links.proofs.MapLaws.{AreUnder, IsSorted, sorted_in, found_in, among_in, under_inserted, cites_inserted, under_removed, cites_removed, under_same, same_ids, same_cites_in, rising_insert, distinct_insert, found_without, cites_total}
use Rattle.thread_links.proofs.Places.{Place, place, between}
use Rattle.thread_links.proofs.WorkLaws.{all_both, all_right, all_by}
use Rattle.thread_links.proofs.Working.{IsBetween, begun_added, begun_removed}
use Rattle.thread_links.proofs.Turns.{turned_ties, later_there}

pub under_of : (es : Entries) (cited : List (Bytes × Ordered Spot)) → IsIndex es cited → AreUnder es
under_of es cited i = record { ids = i.ids; under = i.under }

-- ---- what is kept

no_entry : (o : Option Kept) → is_some (option_map (λ k. k.cites) o) ≡ false → o ≡ None
no_entry None e = refl
no_entry (Some k) e = absurd (false≢true (sym e))

pub not_kept : (es : Entries) → AreUnder es → (id : Bytes) → is_id_among (cites_in es) id ≡ false → kept_at es id ≡ None
not_kept es u id n = no_entry (kept_at es id) (sym (among_in es u id) ∙ n)

pub is_kept : (es : Entries) → AreUnder es → (id : Bytes) → is_id_among (cites_in es) id ≡ true → kept_at es id ≡ None → ⊥
is_kept es u id h e = false≢true (sym (among_in es u id ∙ ap (λ o. is_some (option_map (λ (k : Kept). k.cites) o)) e) ∙ h)

abbrev Looked : Entries → Bytes → Option Kept
Looked es q = lookup (is_at (slice_cmp nat_cmp q)) es

module _ (es fs : Entries) (cited more : List (Bytes × Ordered Spot)) (i : IsIndex es cited) (ordered : IsStrictlySortedBy (slice_cmp nat_cmp) (keys_of fs)) where
  module _ (x : Cites) (id : Bytes) (is : id ≡ x.spot.id) (absent : is_id_among (cites_in es) x.spot.id ≡ false)
      (updates : (q : Bytes) → Looked fs q ≡ cond (is_at (slice_cmp nat_cmp id) q) (Some (record { cites = x; chat = None })) (Looked es q)) where
    abbrev new : Kept
    new = record { cites = x; chat = None }

    u : AreUnder es
    u = under_of es cited i

    none : kept_at es id ≡ None
    none = not_kept es u id (ap (is_id_among (cites_in es)) is ∙ absent)

    after : (q : Bytes) → kept_at fs q ≡ cond (bytes_eq id q) (Some new) (kept_at es q)
    after = changed es fs id (Some new) updates

    pub kept_cites : cites_in fs ≡ insert_by cites_cmp x (cites_in es)
    kept_cites = cites_inserted es fs u ordered id new none (sym is) after

    pub kept_chats : (q : Bytes) → chat_in fs q ≡ chat_in es q
    kept_chats q = ap (option_and_then (λ k. k.chat)) (after q) ∙ elim (cases_Bool (bytes_eq id q)) [
      | inl e ↦ ap (λ b. option_and_then (λ (k : Kept). k.chat) (cond b (Some new) (kept_at es q))) e ∙ sym (ap (option_and_then (λ (k : Kept). k.chat)) (ap (kept_at es) (sym ((bytes_decides id q).0 e)) ∙ none))
      | inr n ↦ ap (λ b. option_and_then (λ (k : Kept). k.chat) (cond b (Some new) (kept_at es q))) n
    ]

    pub kept_index : ((q : Bytes) → values_at more q ≡ (if is_among x.candidates q then insert_by spot_cmp x.spot (values_at cited q) else values_at cited q)) → IsIndex fs more
    kept_index spots = record {
      ids = ordered;
      under = (under_inserted es fs u ordered id new none (sym is) after).under;
      spots = λ q.
          spots q ∙ ap (λ ss. if is_among x.candidates q then insert_by spot_cmp x.spot ss else ss) (i.spots q)
          ∙ cited_inserted x (cites_in es) q (sorted_in es u).rising ∙ ap (λ ts. spots_of (citing q ts)) (sym kept_cites);
    }

  module _ (id : Bytes) (k : Kept) (found : kept_at es id ≡ Some k) (updates : (q : Bytes) → Looked fs q ≡ cond (is_at (slice_cmp nat_cmp id) q) None (Looked es q)) where
    at_id : cites_at es id ≡ Some k.cites
    at_id = ap (option_map (λ c. c.cites)) found

    pub own_id : k.cites.spot.id ≡ id
    own_id = i.under id k.cites at_id

    pub its_place : Place (cites_in es) k.cites
    its_place = place (cites_in es) (sorted_in es (under_of es cited i)).rising (sorted_in es (under_of es cited i)).once id k.cites (found_in es (under_of es cited i) id ∙ at_id)

    after_it : (q : Bytes) → kept_at fs q ≡ cond (bytes_eq id q) None (kept_at es q)
    after_it = changed es fs id None updates

    pub left_cites : cites_in fs ≡ without_id id (cites_in es)
    left_cites = cites_removed es fs (under_of es cited i) ordered id after_it

    pub left_chats : (q : Bytes) → chat_in fs q ≡ cond (bytes_eq id q) None (chat_in es q)
    left_chats q = ap (option_and_then (λ c. c.chat)) (after_it q) ∙ elim (bytes_eq id q) as (λ b. option_and_then (λ (c : Kept). c.chat) (cond b None (kept_at es q)) ≡ cond b None (chat_in es q)) [ true ↦ refl | false ↦ refl ]

    pub left_index : ((q : Bytes) → values_at more q ≡ (if is_among k.cites.candidates q then but k.cites.spot (values_at cited q) else values_at cited q)) → IsIndex fs more
    left_index spots = record {
      ids = ordered;
      under = (under_removed es fs (under_of es cited i) ordered id after_it).under;
      spots = λ q.
          spots q ∙ ap (λ ss. if is_among k.cites.candidates q then but k.cites.spot ss else ss) (i.spots q)
          ∙ cited_removed k.cites (cites_in es) its_place q ∙ ap (λ w. spots_of (citing q (without_id w (cites_in es)))) own_id ∙ ap (λ ts. spots_of (citing q ts)) (sym left_cites);
    }

-- other chats change nothing of it
pub index_same : (es fs : Entries) (cited : List (Bytes × Ordered Spot)) → without_chats fs ≡ without_chats es → IsIndex es cited → IsIndex fs cited
index_same es fs cited same i =
    let ids = same_ids es fs same i.ids in
    record {
      ids = ids;
      under = (under_same es fs (under_of es cited i) ids same).under;
      spots = λ q. i.spots q ∙ ap (λ ts. spots_of (citing q ts)) (sym (same_cites_in es fs same));
    }

-- ---- the work on a card that comes

-- where it is put
record Split (x : Cites) (ts : List Cites) : Type 0 where
  pub before : List Cites
  pub later : List Cites
  pub was : ts ≡ before ++ later
  pub is : insert_by cites_cmp x ts ≡ before ++ x ∷ later

split : (x : Cites) (ts : List Cites) → Split x ts
split x [] = record { before = []; later = []; was = refl; is = refl }
split x (t ∷ ts) =
    elim (is_lt (cites_cmp x t)) as (λ b. is_lt (cites_cmp x t) ≡ b → Split x (t ∷ ts)) [
      | true ↦ λ e. record { before = []; later = t ∷ ts; was = refl; is = ap (λ b. if b then x ∷ t ∷ ts else t ∷ insert_by cites_cmp x ts) e }
      | false ↦ λ e. let s = split x ts in
          record { before = t ∷ s.before; later = s.later; was = ap (λ us. t ∷ us) s.was; is = ap (λ b. if b then x ∷ t ∷ ts else t ∷ insert_by cites_cmp x ts) e ∙ ap (λ us. t ∷ us) s.is }
    ] refl

-- the later ones that name a card are on its list
later_listed : (pending : Spot → Bool) (x : Cites) (ts skipped later : List Cites) → ts ≡ skipped ++ later → AllByRecursion (λ t. is_before x.spot t.spot ≡ true) later
    → ((s : Spot) → pending s ≡ false → is_later_of (spots_of (citing x.spot.id ts)) x.spot s ≡ false)
    → AllByRecursion (λ t. pending t.spot ≡ false → is_among t.candidates x.spot.id ≡ false) later
later_listed pending x ts skipped later e above listed =
    all_both (λ t. is_before x.spot t.spot ≡ true) (λ t. is_among t.candidates x.spot.id ≡ true → list_any (ties t.spot) (spots_of (citing x.spot.id ts)) ≡ true)
    (λ t. pending t.spot ≡ false → is_among t.candidates x.spot.id ≡ false)
    (λ t a k n. by t a k n (cases_Bool (is_among t.candidates x.spot.id))) later above
    (all_right (λ t. is_among t.candidates x.spot.id ≡ true → list_any (ties t.spot) (spots_of (citing x.spot.id ts)) ≡ true) skipped later
    (subst (AllByRecursion (λ t. is_among t.candidates x.spot.id ≡ true → list_any (ties t.spot) (spots_of (citing x.spot.id ts)) ≡ true)) e (all_listed ts x.spot.id)))
  where
    by : (t : Cites) → is_before x.spot t.spot ≡ true → (is_among t.candidates x.spot.id ≡ true → list_any (ties t.spot) (spots_of (citing x.spot.id ts)) ≡ true) → pending t.spot ≡ false
        → (is_among t.candidates x.spot.id ≡ true) ⊎ (is_among t.candidates x.spot.id ≡ false) → is_among t.candidates x.spot.id ≡ false
    by t a k n (inr h) = h
    by t a k n (inl h) = absurd (both_ways (is_later_of (spots_of (citing x.spot.id ts)) x.spot t.spot) (listed t.spot n) (λ j. a j && k h j))

pub added_working : (x : Cites) (us : List Cites) → IsSorted us → is_id_among us x.spot.id ≡ false → (pending : Spot → Bool) → pending x.spot ≡ true
    → ((s : Spot) → pending s ≡ false → is_later_of (spots_of (citing x.spot.id (insert_by cites_cmp x us))) x.spot s ≡ false)
    → IsWorking (chat_among us) (chat_among us) pending (insert_by cites_cmp x us) (insert_by cites_cmp x us) []
added_working x us s absent pending on listed =
    let p = split x us in
    let rising : Rising cites_cmp (p.before ++ x ∷ p.later) = subst (Rising cites_cmp) p.is (rising_insert x us absent s.rising) in
    let once : DistinctIds (p.before ++ x ∷ p.later) = subst DistinctIds p.is (distinct_insert x us absent s.once) in
    let b : IsBetween p.before x p.later = between p.before x p.later rising once in
    subst (λ ts. IsWorking (chat_among us) (chat_among us) pending ts ts []) (sym p.is)
    (subst (λ ts. IsWorking (chat_among ts) (chat_among ts) pending (p.before ++ x ∷ p.later) (p.before ++ x ∷ p.later) []) (sym p.was)
    (begun_added pending p.before x p.later (subst DistinctIds p.was s.once) on
    (later_listed pending x (insert_by cites_cmp x us) (p.before ++ x ∷ []) p.later (p.is ∙ regroup p.before p.later) b.above listed)))
  where
    regroup : (bs ls : List Cites) → bs ++ x ∷ ls ≡ (bs ++ x ∷ []) ++ ls
    regroup [] ls = refl
    regroup (t ∷ bs) ls = ap (λ ts. t ∷ ts) (regroup bs ls)

pub added_begun : (es fs : Entries) (cited more : List (Bytes × Ordered Spot)) → IsIndex es cited → IsIndex fs more → (x : Cites) → is_id_among (cites_in es) x.spot.id ≡ false
    → cites_in fs ≡ insert_by cites_cmp x (cites_in es) → ((q : Bytes) → chat_in fs q ≡ chat_among (cites_in es) q)
    → (pending : Spot → Bool) → pending x.spot ≡ true → ((s : Spot) → pending s ≡ false → is_later_of (values_at more x.spot.id) x.spot s ≡ false)
    → IsBegun (cites_in fs) (cites_in es) fs pending []
added_begun es fs cited more i j x absent cites chats pending on listed =
    let s = sorted_in fs (under_of fs more j) in
    let same : chat_among (cites_in es) ≡ chat_in fs = λ k q. sym (chats q) k in
    record {
      order = sorted_from cites_cmp cites_total (cites_in fs) s.rising;
      once = s.once;
      all_kept = λ id t h. h;
      working = subst (λ f. IsWorking (chat_among (cites_in es)) f pending (cites_in fs) (cites_in fs) []) same
          (subst (λ ts. IsWorking (chat_among (cites_in es)) (chat_among (cites_in es)) pending ts ts []) (sym cites)
          (added_working x (cites_in es) (sorted_in es (under_of es cited i)) absent pending on
          (λ p n. ap (λ ss. is_later_of ss x.spot p) (ap (λ ts. spots_of (citing x.spot.id ts)) (sym cites) ∙ sym (j.spots x.spot.id)) ∙ listed p n)));
    }

-- ---- the work on a card that goes

told_gone : (id : Bytes) (o : Option ChatKey) → is_some o ≡ true → cons_option (moved id o None) [] ≡ record { id = id; before = o; after = None } ∷ []
told_gone id None e = absurd (false≢true e)
told_gone id (Some k) e = refl

without_place : (x : Cites) (before later : List Cites) → IsBetween before x later → without_id x.spot.id (before ++ x ∷ later) ≡ before ++ later
without_place x [] later b = ap (λ c. cond (not c) (x ∷ without_id x.spot.id later) (without_id x.spot.id later)) ((bytes_decides x.spot.id x.spot.id).1 refl) ∙ none_filtered (has_id x.spot.id) later (others later b.last)
  where
    others : (ts : List Cites) → AllByRecursion (λ t. bytes_eq t.spot.id x.spot.id ≡ false) ts → None_of (λ t. bytes_eq x.spot.id t.spot.id) ts
    others ts a = all_by (λ t. bytes_eq t.spot.id x.spot.id ≡ false) (λ t. bytes_eq x.spot.id t.spot.id ≡ false) (λ t n. back t n) ts a
      where
        back : (t : Cites) → bytes_eq t.spot.id x.spot.id ≡ false → bytes_eq x.spot.id t.spot.id ≡ false
        back t n =
            elim (bytes_eq x.spot.id t.spot.id) as (λ b. bytes_eq x.spot.id t.spot.id ≡ b → b ≡ false) [
              | false ↦ λ _. refl
              | true ↦ λ e. absurd (both_ways (bytes_eq t.spot.id x.spot.id) n ((bytes_decides t.spot.id x.spot.id).1 (sym ((bytes_decides x.spot.id t.spot.id).0 e))))
            ] refl
without_place x (t ∷ before) later b =
    let other : bytes_eq x.spot.id t.spot.id ≡ false = back b.first.0 in
    ap (λ c. cond (not c) (t ∷ without_id x.spot.id (before ++ x ∷ later)) (without_id x.spot.id (before ++ x ∷ later))) other
    ∙ ap (λ ts. t ∷ ts) (without_place x before later (record { below = b.below.1; above = b.above; first = b.first.1; last = b.last }))
  where
    back : bytes_eq t.spot.id x.spot.id ≡ false → bytes_eq x.spot.id t.spot.id ≡ false
    back n =
        elim (bytes_eq x.spot.id t.spot.id) as (λ b. bytes_eq x.spot.id t.spot.id ≡ b → b ≡ false) [
          | false ↦ λ _. refl
          | true ↦ λ e. absurd (both_ways (bytes_eq t.spot.id x.spot.id) n ((bytes_decides t.spot.id x.spot.id).1 (sym ((bytes_decides x.spot.id t.spot.id).0 e))))
        ] refl

later_only : (spots : List Spot) (from s : Spot) → is_later_of spots from s ≡ true → is_before from s ≡ true
later_only spots from s h = elim (is_before from s) as (λ b. (b && list_any (ties s) spots) ≡ true → b ≡ true) [ true ↦ λ _. refl | false ↦ λ k. absurd (false≢true k) ] h

removed_working : (x : Cites) (us : List Cites) → IsSorted us → Place us x → (f : Bytes → Option ChatKey) (pending : Spot → Bool)
    → ((q : Bytes) → f q ≡ cond (bytes_eq x.spot.id q) None (chat_among us q))
    → ((s : Spot) → pending s ≡ is_later_of (spots_of (citing x.spot.id (without_id x.spot.id us))) x.spot s)
    → IsWorking (chat_among us) f pending us (without_id x.spot.id us) (record { id = x.spot.id; before = chat_among us x.spot.id; after = None } ∷ [])
removed_working x us s p f pending chats is =
    let b = p.between in
    let whole = p.before ++ x ∷ p.later in
    let left : without_id x.spot.id us ≡ p.before ++ p.later = ap (without_id x.spot.id) p.is ∙ without_place x p.before p.later b in
    let there : is_some (chat_among us x.spot.id) ≡ true = is_some-known_chat [] us x.spot.id ∙ ap (λ ts. is_id_among ts x.spot.id) p.is ∙ among p.before in
    subst (λ ts. IsWorking (chat_among us) f pending us ts (record { id = x.spot.id; before = chat_among us x.spot.id; after = None } ∷ [])) (sym left)
    (subst (IsWorking (chat_among us) f pending us (p.before ++ p.later)) (told_gone x.spot.id (chat_among us x.spot.id) there)
    (subst (λ ts. IsWorking (chat_among ts) f pending ts (p.before ++ p.later) (cons_option (moved x.spot.id (chat_among ts x.spot.id) None) [])) (sym p.is)
    (begun_removed f pending p.before x p.later (subst DistinctIds p.is s.once) b
    (λ q n. chats q ∙ ap (λ c. cond c None (chat_among us q)) (back q n) ∙ ap (λ ts. chat_among ts q) p.is)
    (chats x.spot.id ∙ ap (λ c. cond c None (chat_among us x.spot.id)) ((bytes_decides x.spot.id x.spot.id).1 refl))
    (λ t h. later_only (spots_of (citing x.spot.id (without_id x.spot.id us))) x.spot t (sym (is t) ∙ h))
    (later_listed pending x (without_id x.spot.id us) p.before p.later left b.above (λ t n. sym (is t) ∙ n)))))
  where
    back : (q : Bytes) → bytes_eq q x.spot.id ≡ false → bytes_eq x.spot.id q ≡ false
    back q n =
        elim (bytes_eq x.spot.id q) as (λ b. bytes_eq x.spot.id q ≡ b → b ≡ false) [
          | false ↦ λ _. refl
          | true ↦ λ e. absurd (both_ways (bytes_eq q x.spot.id) n ((bytes_decides q x.spot.id).1 (sym ((bytes_decides x.spot.id q).0 e))))
        ] refl

    among : (before : List Cites) → is_id_among (before ++ x ∷ p.later) x.spot.id ≡ true
    among [] = ap (λ b. b || is_id_among p.later x.spot.id) ((bytes_decides x.spot.id x.spot.id).1 refl)
    among (t ∷ before) = ap (λ b. bytes_eq x.spot.id t.spot.id || b) (among before) ∙ or_true (bytes_eq x.spot.id t.spot.id)
      where
        or_true : (b : Bool) → (b || true) ≡ true
        or_true true = refl
        or_true false = refl

pub removed_begun : (es fs : Entries) (cited more : List (Bytes × Ordered Spot)) → IsIndex es cited → IsIndex fs more → (id : Bytes) (k : Kept) → kept_at es id ≡ Some k
    → cites_in fs ≡ without_id id (cites_in es) → ((q : Bytes) → chat_in es q ≡ chat_among (cites_in es) q) → ((q : Bytes) → chat_in fs q ≡ cond (bytes_eq id q) None (chat_in es q))
    → (pending : Spot → Bool) → ((s : Spot) → pending s ≡ is_later_of (values_at more k.cites.spot.id) k.cites.spot s)
    → IsBegun (cites_in es) (cites_in es) fs pending (record { id = id; before = k.chat; after = None } ∷ [])
removed_begun es fs cited more i j id k found cites settled chats pending is =
    let x = k.cites in
    let u = under_of es cited i in
    let s = sorted_in es u in
    let own : x.spot.id ≡ id = i.under id x (ap (option_map (λ c. c.cites)) found) in
    let p : Place (cites_in es) x = place (cites_in es) s.rising s.once id x (found_in es u id ∙ ap (option_map (λ c. c.cites)) found) in
    let left : cites_in fs ≡ without_id x.spot.id (cites_in es) = cites ∙ ap (λ w. without_id w (cites_in es)) (sym own) in
    let before : chat_among (cites_in es) x.spot.id ≡ k.chat = ap (chat_among (cites_in es)) own ∙ sym (settled id) ∙ ap (option_and_then (λ c. c.chat)) found in
    record {
      order = sorted_from cites_cmp cites_total (cites_in es) s.rising;
      once = s.once;
      all_kept = λ q t h. kept_before q t (sym (ap (find (has_id q)) cites ∙ found_without id (cites_in es) q) ∙ h);
      working = subst (λ (w : Bytes × Option ChatKey). IsWorking (chat_among (cites_in es)) (chat_in fs) pending (cites_in es) (cites_in fs) (record { id = w.0; before = w.1; after = None } ∷ [])) (λ n. (own n, before n))
          (subst (λ ts. IsWorking (chat_among (cites_in es)) (chat_in fs) pending (cites_in es) ts (record { id = x.spot.id; before = chat_among (cites_in es) x.spot.id; after = None } ∷ [])) (sym left)
          (removed_working x (cites_in es) s p (chat_in fs) pending
          (λ q. chats q ∙ (λ n. cond (bytes_eq (sym own n) q) None (settled q n)))
          (λ t. is t ∙ ap (λ ss. is_later_of ss x.spot t) (j.spots x.spot.id ∙ ap (λ ts. spots_of (citing x.spot.id ts)) left))));
    }
  where
    kept_before : (q : Bytes) (t : Cites) → cond (bytes_eq id q) None (find (has_id q) (cites_in es)) ≡ Some t → find (has_id q) (cites_in es) ≡ Some t
    kept_before q t h = elim (bytes_eq id q) as (λ b. cond b None (find (has_id q) (cites_in es)) ≡ Some t → find (has_id q) (cites_in es) ≡ Some t) [ true ↦ λ k. cc | false ↦ λ k. k ] h

-- ---- what is on the list at first

pub first_listed : (b w : Bool) → cond b true w ≡ false → w ≡ false
first_listed true w h = absurd (false≢true (sym h))
first_listed false w h = h

-- each spot that is on the list at first is that of a card
pub there_at_first : (x : Cites) (us : List Cites) (s : Spot) (b w : Bool) → ties x.spot s ≡ b → cond b true w ≡ true
    → (w ≡ true → list_any (λ t. ties s t.spot) (insert_by cites_cmp x us) ≡ true) → list_any (λ t. ties s t.spot) (insert_by cites_cmp x us) ≡ true
there_at_first x us s false w e h later = later h
there_at_first x us s true w e h later =
    list_any-insert_by cites_cmp (λ t. ties s t.spot) x us ∙ ap (λ c. c || list_any (λ t. ties s t.spot) us) (turned_ties s x.spot ∙ e)

module _ (es fs : Entries) (cited more : List (Bytes × Ordered Spot)) (i : IsIndex es cited) (j : IsIndex fs more) (x : Cites) (absent : is_id_among (cites_in es) x.spot.id ≡ false)
    (cites : cites_in fs ≡ insert_by cites_cmp x (cites_in es)) (spot : Spot) (copied : spot ≡ x.spot) (work pending : Spot → Bool)
    (later : (s : Spot) → work s ≡ is_later_of (values_at more spot.id) spot s) (pushed : (s : Spot) → pending s ≡ cond (ties spot s) true (work s)) where
  later_is : (s : Spot) → work s ≡ is_later_of (values_at more x.spot.id) x.spot s
  later_is s = later s ∙ ap (λ p. is_later_of (values_at more p.id) p s) copied

  pushed_is : (s : Spot) → pending s ≡ cond (ties x.spot s) true (work s)
  pushed_is s = pushed s ∙ ap (λ p. cond (ties p s) true (work s)) copied

  pub add_begun : ((q : Bytes) → chat_in fs q ≡ chat_among (cites_in es) q) → IsBegun (cites_in fs) (cites_in es) fs pending []
  add_begun chats =
      added_begun es fs cited more i j x absent cites chats pending (pushed_is x.spot ∙ ap (λ b. cond b true (work x.spot)) (ties_self x.spot))
      (λ s n. sym (later_is s) ∙ first_listed (ties x.spot s) (work s) (sym (pushed_is s) ∙ n))

  pub add_there : (s : Spot) → pending s ≡ true → list_any (λ t. ties s t.spot) (cites_in fs) ≡ true
  add_there s h =
      ap (list_any (λ t. ties s t.spot)) cites
      ∙ there_at_first x (cites_in es) s (ties x.spot s) (work s) refl (sym (pushed_is s) ∙ h) (λ w.
      ap (list_any (λ t. ties s t.spot)) (sym cites)
      ∙ later_there (cites_in fs) x.spot.id x.spot s (ap (λ ss. is_later_of ss x.spot s) (sym (j.spots x.spot.id)) ∙ sym (later_is s) ∙ w))

-- ---- what is kept in the end

module _ {T E : Type 0} (fs gs : Entries) (cited : List (Bytes × Ordered Spot)) where
  pub settled_ok : (r : Result T E) → IsIndex fs cited → OnOk r (without_chats gs ≡ without_chats fs) → ((q : Bytes) → OnOk r (chat_in gs q ≡ chat_among (cites_in fs) q)) → OnOk r (IsSettled gs cited)
  settled_ok (Ok x) i same chats = record { index = index_same fs gs cited same i; chats = λ q. chats q ∙ ap (λ ts. chat_among ts q) (sym (same_cites_in fs gs same)) }
  settled_ok (Err e) i same chats = tt

  pub cites_ok : (r : Result T E) (us : List Cites) → cites_in fs ≡ us → OnOk r (without_chats gs ≡ without_chats fs) → OnOk r (cites_in gs ≡ us)
  cites_ok (Ok x) us is same = same_cites_in fs gs same ∙ is
  cites_ok (Err e) us is same = tt

  pub told_ok : (r : Result T E) (told : T → List Moved) (answer : List Cites → List Moved) → OnOk r (without_chats gs ≡ without_chats fs) → IfOk r (λ t. told t ≡ answer (cites_in fs)) → IfOk r (λ t. told t ≡ answer (cites_in gs))
  told_ok (Ok x) told answer same h = h ∙ ap answer (sym (same_cites_in fs gs same))
  told_ok (Err e) told answer same h = tt

-- nothing is kept
pub settled_empty : (es : Entries) (cited : List (Bytes × Ordered Spot)) → es ≡ [] → IsStrictlySortedBy (slice_cmp nat_cmp) (keys_of es) → ((id : Bytes) → values_at cited id ≡ []) → IsSettled es cited
settled_empty es cited e ids none = record {
  index = record {
    ids = ids;
    under = λ id t h. let no : None ≡ Some t = sym (ap (λ us. cites_at us id) e) ∙ h in cc;
    spots = λ id. none id ∙ ap (λ us. spots_of (citing id (cites_in us))) (sym e);
  };
  chats = λ id. ap (λ us. chat_in us id) e ∙ ap (λ us. chat_among (cites_in us) id) (sym e);
}

-- just the cards that are kept have a chat
pub has_chat : (lent : Option (Bor ChatKey)) (ts : List Cites) (id : Bytes) → option_copied lent ≡ chat_among ts id → is_some lent ≡ is_id_among ts id
has_chat lent ts id e = alone lent ∙ ap is_some e ∙ is_some-known_chat [] ts id
  where
    alone : (o : Option (Bor ChatKey)) → is_some o ≡ is_some (option_copied o)
    alone None = refl
    alone (Some k) = refl
