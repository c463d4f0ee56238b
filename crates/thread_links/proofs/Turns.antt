-- One turn of the loop over a list of work.
use Rattle.std.proofs.Common.{◌≡◌, ◌<◌, ◌+◌, refl, sym, ap, ◌∙◌, subst, ℕ, suc, Bool, true, false, ◌||◌, ◌&&◌, cond, Option, Some, None, is_some, List, [], ◌∷◌, ◌++◌, ◌⊎◌, inl, inr, length, take, get_or, arith}
use Rattle.std.specs.Prelude.{if◌then◌else◌}
use Rattle.std.specs.List.{find, list_any, All, AllByRecursion, cons_option}
use Rattle.std.specs.List.Sorted.{IsStrictlySortedBy}
use Rattle.std.specs.Option.{option_and_then, option_eq, option_map}
use Rattle.std.specs.Ordering.{is_lt}
use Rattle.std.specs.Cmp.{eq_by_cmp_equiv}
use Rattle.std.specs.Cmp.Lexicographic.{bytes_decides}
use Rattle.std.specs.BTreeMap.Range.{IsLtBy}
use Rattle.std.specs.Str.{bytes_eq}
use Rattle.std.specs.declared.cmp.Ordering.TheVariants.{Less}
use Rattle.std.proofs.lemmas.Bool.{both_ways, cases_Bool, or_parts, false≢true}
use Rattle.std.proofs.lemmas.List.{take_more}
use Rattle.std.proofs.lemmas.List.Elements.{All-head, All-tail}
use Rattle.std.proofs.lemmas.List.Folds.{list_any-append}
use Rattle.lists.proofs.Inserts.{list_any-found}
use Rattle.lists.proofs.Rising.{Rising, Above}
use Rattle.lists.specs.Ordered.{Ordered, values_at}
use Rattle.card_type.specs.declared.key.ChatKey.{ChatKey}
use Rattle.card_type.specs.declared.spot.Spot.{Spot}
use Rattle.card_type.specs.Effects.{is_among}
use Rattle.card_type.specs.Keys.{key_eq}
use Rattle.card_type.specs.Spots.{spot_cmp}
use Rattle.card_type.proofs.Orders.{spots_total}
use Rattle.mailbox_model.specs.declared.links.Cites.{Cites}
use Rattle.mailbox_model.specs.declared.links.Moved.{Moved}
use Rattle.mailbox_model.specs.Lists.{Bytes}
use Rattle.mailbox_model.specs.Chats.{cites_cmp, chat_from, is_id_among, DistinctIds, parent_among, chat_among, moved, moves}
use Rattle.mailbox_model.proofs.ListLaws.{key_same, key_self}
use Rattle.thread_links.specs.declared.kept.Kept.{Kept}
use Rattle.thread_links.specs.Linked.{citing}
use Rattle.thread_links.specs.Kept.{Entries, kept_at, cites_at, chat_in, cites_in, without_chats, parent_in}
use Rattle.thread_links.specs.Work.{has_id, is_before, is_later_of, IsWorking, IsBegun}
use Rattle.thread_links.proofs.Citing.{ties}
use Rattle.thread_links.proofs.CitedLaws.{spots_of, ties_self, tied, no_tie, all_listed, cited_there, parent_is}
use Rattle.thread_links.proofs.MapLaws.{AreUnder, sorted_in, found_in, among_in, same_cites_in}
use Rattle.thread_links.proofs.Places.{later_count, fewer, Place, place}
use Rattle.thread_links.proofs.WorkLaws.{all_both, all_right}
use Rattle.thread_links.proofs.Working.{look, finished, all_told}

-- ---- what is put on the list

or_true : (b : Bool) → (b || true) ≡ true
or_true true = refl
or_true false = refl

or_false : (b : Bool) → (b || false) ≡ b
or_false true = refl
or_false false = refl

pub turned_ties : (a b : Spot) → ties a b ≡ ties b a
turned_ties a b = (eq_by_cmp_equiv spots_total).symm a b

module _ (spots : List Spot) (i : ℕ) (x from s : Spot) (in_range : i < length spots) (is : x ≡ get_or spots i x) (old now : Bool)
    (so_far : now ≡ (old || is_later_of (take i spots) from s)) where
  one_more : is_later_of (take (i + 1) spots) from s ≡ (is_before from s && (list_any (ties s) (take i spots) || ties s x))
  one_more =
      ap (λ ss. is_later_of ss from s) (take_more spots i x in_range ∙ ap (λ y. take i spots ++ y ∷ []) (sym is))
      ∙ ap (λ b. is_before from s && b) (list_any-append (ties s) (take i spots) (x ∷ []) ∙ ap (λ b. list_any (ties s) (take i spots) || b) (or_false (ties s x)))

  pub later_pushed : is_lt (spot_cmp from x) ≡ true → cond (ties x s) true now ≡ (old || is_later_of (take (i + 1) spots) from s)
  later_pushed h =
      elim (ties x s) as (λ b. ties x s ≡ b → cond b true now ≡ (old || is_later_of (take (i + 1) spots) from s)) [
        | true ↦ λ e.
            let later : is_before from s ≡ true = subst (λ p. is_before from p ≡ true) (tied x s e) h in
            sym (ap (λ b. old || b) (one_more ∙ (λ j. later j && (list_any (ties s) (take i spots) || (turned_ties s x ∙ e) j)) ∙ or_true (list_any (ties s) (take i spots))) ∙ or_true old)
        | false ↦ λ e. so_far ∙ sym (ap (λ b. old || b) (one_more ∙ (λ j. is_before from s && (list_any (ties s) (take i spots) || (turned_ties s x ∙ e) j)) ∙ ap (λ b. is_before from s && b) (or_false (list_any (ties s) (take i spots)))))
      ] refl

  pub not_pushed : is_lt (spot_cmp from x) ≡ false → now ≡ (old || is_later_of (take (i + 1) spots) from s)
  not_pushed h =
      elim (ties s x) as (λ b. ties s x ≡ b → now ≡ (old || is_later_of (take (i + 1) spots) from s)) [
        | true ↦ λ e.
            let earlier : is_before from s ≡ false = subst (λ p. is_before from p ≡ false) (sym (tied s x e)) h in
            so_far ∙ ap (λ b. old || b) (ap (λ b. b && list_any (ties s) (take i spots)) earlier ∙ sym (one_more ∙ ap (λ b. b && (list_any (ties s) (take i spots) || ties s x)) earlier))
        | false ↦ λ e. so_far ∙ sym (ap (λ b. old || b) (one_more ∙ (λ j. is_before from s && (list_any (ties s) (take i spots) || e j)) ∙ ap (λ b. is_before from s && b) (or_false (list_any (ties s) (take i spots)))))
      ] refl

-- ---- a move

pub told_move : (id : Bytes) (before after : Option ChatKey) → option_eq key_eq before after ≡ false → Some (record { id = id; before = before; after = after }) ≡ moved id before after
told_move id before after e = sym (ap (λ b. if b then None else Some (record { id = id; before = before; after = after })) e)

-- one that stays in its chat is not told
pub told_none : (id : Bytes) (chat : Option ChatKey) → None ≡ moved id chat chat
told_none id None = refl
told_none id (Some k) = sym (ap (λ b. if b then None else Some (record { id = id; before = Some k; after = Some k })) (key_self k))

pub keys_same : (a b : Option ChatKey) → option_eq key_eq a b ≡ true → a ≡ b
keys_same None None e = refl
keys_same None (Some k) e = absurd (false≢true e)
keys_same (Some k) None e = absurd (false≢true e)
keys_same (Some k) (Some l) e = ap Some (key_same k l e)

-- one that is not told stays
pub not_moved : (id : Bytes) (before after : Option ChatKey) → is_some (moved id before after) ≡ false → after ≡ before
not_moved id before after h = by (option_eq key_eq before after) refl h
  where
    move : Bool → Option Moved
    move b = if b then None else Some (record { id = id; before = before; after = after })

    by : (b : Bool) → option_eq key_eq before after ≡ b → is_some (move b) ≡ false → after ≡ before
    by true e k = sym (keys_same before after e)
    by false e k = absurd (false≢true (sym k))

-- ---- one turn

pub record IsTurn (es fs : Entries) (cited : List (Bytes × Ordered Spot)) (work next : Spot → Bool) (told more : List Moved) (spot : Spot) : Type 0 where
  pub on : work spot ≡ true
  pub same : without_chats fs ≡ without_chats es
  pub others : (id : Bytes) → bytes_eq spot.id id ≡ false → chat_in fs id ≡ chat_in es id
  pub chat : (t : Cites) → cites_at es spot.id ≡ Some t → chat_in fs spot.id ≡ Some (chat_from t (option_and_then (chat_in es) (parent_in es t)))
  pub tells : more ≡ told ++ cons_option (moved spot.id (chat_in es spot.id) (chat_in fs spot.id)) []
  pub passes : (s : Spot) → next s ≡ false → bytes_eq s.id spot.id ≡ false → work s ≡ false
  pub after : (s : Spot) → next s ≡ true → is_before spot s ≡ true
  pub listed : (s : Spot) → next s ≡ false → is_before spot s ≡ true → list_any (ties s) (values_at cited spot.id) ≡ true
      → is_some (moved spot.id (chat_in es spot.id) (chat_in fs spot.id)) ≡ false

rising_from : (ts : List Cites) → IsStrictlySortedBy cites_cmp ts → Rising cites_cmp ts
unfolding IsStrictlySortedBy
rising_from [] s = tt
rising_from (t ∷ ts) s = (above ts s.0, rising_from ts s.1)
  where
    above : (us : List Cites) → AllByRecursion (λ u. cites_cmp t u ≡ Less) us → Above cites_cmp t us
    above [] a = tt
    above (u ∷ us) a = (ap is_lt a.0, above us a.1)

-- the card at a spot
pub record At (ts : List Cites) (s : Spot) : Type 0 where
  pub card : Cites
  pub spot : card.spot ≡ s
  pub found : find (has_id s.id) ts ≡ Some card

pub card_at : (ts : List Cites) (s : Spot) → DistinctIds ts → list_any (λ t. ties s t.spot) ts ≡ true → At ts s
card_at [] s d h = absurd (false≢true h)
card_at (t ∷ ts) s d h =
    elim (ties s t.spot) as (λ b. ties s t.spot ≡ b → (b || list_any (λ u. ties s u.spot) ts) ≡ true → At (t ∷ ts) s) [
      | true ↦ λ e k.
          let same = tied s t.spot e in
          record { card = t; spot = sym same; found = ap (λ b. cond b (Some t) (find (has_id s.id) ts)) ((bytes_decides s.id t.spot.id).1 (ap (λ p. p.id) same)) }
      | false ↦ λ e k. let x = card_at ts s d.1 k in record { card = x.card; spot = x.spot; found = ap (λ b. cond b (Some t) (find (has_id s.id) ts)) (other x) ∙ x.found }
    ] refl h
  where
    other : At ts s → bytes_eq s.id t.spot.id ≡ false
    other x =
        elim (bytes_eq s.id t.spot.id) as (λ b. bytes_eq s.id t.spot.id ≡ b → b ≡ false) [
          | false ↦ λ _. refl
          | true ↦ λ e.
              let there : is_id_among ts t.spot.id ≡ true = list_any-found (has_id t.spot.id) ts ∙ ap is_some (ap (λ i. find (has_id i) ts) (sym ((bytes_decides s.id t.spot.id).0 e)) ∙ x.found) in
              absurd (both_ways (is_id_among ts t.spot.id) d.0 there)
        ] refl

module _ (es fs : Entries) (u : AreUnder es) (cited : List (Bytes × Ordered Spot)) (spots : (id : Bytes) → values_at cited id ≡ spots_of (citing id (cites_in es)))
    (work next : Spot → Bool) (told more : List Moved) (all before : List Cites) (b : IsBegun all before es work told) where
  turned_card : (x : Cites) → find (has_id x.spot.id) (cites_in es) ≡ Some x → IsTurn es fs cited work next told more x.spot → IsBegun all before fs next more
  turned_card x found t = record {
    order = b.order;
    once = b.once;
    all_kept = λ id c h. b.all_kept id c (ap (find (has_id id)) (sym same) ∙ h);
    working = subst (λ ts. IsWorking old g next all ts more) (sym same) (subst (λ ts. IsWorking old g next all ts more) (sym p.is) (subst (λ ts. IsWorking old g next ts (p.before ++ x ∷ p.later) more) (sym q.is)
        (subst (IsWorking old g next (q.before ++ x ∷ q.later) (p.before ++ x ∷ p.later)) (sym t.tells)
        (look old f g work next x others p.before p.later q.before q.later told
        (subst (λ ts. IsWorking old f work ts (p.before ++ x ∷ p.later) told) q.is (subst (λ ts. IsWorking old f work all ts told) p.is b.working))
        t.on p.between q.between here t.passes t.after handed))));
  }
    where
      f : Bytes → Option ChatKey
      f = chat_in es

      g : Bytes → Option ChatKey
      g = chat_in fs

      old : Bytes → Option ChatKey
      old = chat_among before

      same : cites_in fs ≡ cites_in es
      same = same_cites_in es fs t.same

      p : Place (cites_in es) x
      p = place (cites_in es) (sorted_in es u).rising (sorted_in es u).once x.spot.id x found

      q : Place all x
      q = place all (rising_from all b.order) b.once x.spot.id x (b.all_kept x.spot.id x found)

      others : (id : Bytes) → bytes_eq id x.spot.id ≡ false → g id ≡ f id
      others id n = t.others id (back id n)
        where
          back : (id : Bytes) → bytes_eq id x.spot.id ≡ false → bytes_eq x.spot.id id ≡ false
          back id n =
              elim (bytes_eq x.spot.id id) as (λ b. bytes_eq x.spot.id id ≡ b → b ≡ false) [
                | false ↦ λ _. refl
                | true ↦ λ e. absurd (both_ways (bytes_eq id x.spot.id) n ((bytes_decides id x.spot.id).1 (sym ((bytes_decides x.spot.id id).0 e))))
              ] refl

      here : g x.spot.id ≡ Some (chat_from x (option_and_then f (parent_among p.before x)))
      here = t.chat x (sym (found_in es u x.spot.id) ∙ found) ∙ ap (λ o. Some (chat_from x (option_and_then f o))) (parent_is es u p.before x p.later p.is p.between)

      handed : AllByRecursion (λ c. next c.spot ≡ false → (is_among c.candidates x.spot.id ≡ false) ⊎ (g x.spot.id ≡ f x.spot.id)) p.later
      handed =
          all_both (λ c. is_before x.spot c.spot ≡ true) (λ c. is_among c.candidates x.spot.id ≡ true → list_any (ties c.spot) (spots_of (citing x.spot.id (cites_in es))) ≡ true)
          (λ c. next c.spot ≡ false → (is_among c.candidates x.spot.id ≡ false) ⊎ (g x.spot.id ≡ f x.spot.id))
          (λ c a k n. by c a n k (cases_Bool (is_among c.candidates x.spot.id))) p.later p.between.above
          (all_right (λ c. is_among c.candidates x.spot.id ≡ true → list_any (ties c.spot) (spots_of (citing x.spot.id (cites_in es))) ≡ true) (x ∷ []) p.later
          (all_right (λ c. is_among c.candidates x.spot.id ≡ true → list_any (ties c.spot) (spots_of (citing x.spot.id (cites_in es))) ≡ true) p.before (x ∷ p.later)
          (subst (AllByRecursion (λ c. is_among c.candidates x.spot.id ≡ true → list_any (ties c.spot) (spots_of (citing x.spot.id (cites_in es))) ≡ true)) p.is (all_listed (cites_in es) x.spot.id))))
        where
          by : (c : Cites) → is_before x.spot c.spot ≡ true → next c.spot ≡ false
              → (is_among c.candidates x.spot.id ≡ true → list_any (ties c.spot) (spots_of (citing x.spot.id (cites_in es))) ≡ true)
              → (is_among c.candidates x.spot.id ≡ true) ⊎ (is_among c.candidates x.spot.id ≡ false) → (is_among c.candidates x.spot.id ≡ false) ⊎ (g x.spot.id ≡ f x.spot.id)
          by c a n k (inr e) = inl e
          by c a n k (inl e) = inr (not_moved x.spot.id (f x.spot.id) (g x.spot.id) (t.listed c.spot n a (ap (list_any (ties c.spot)) (spots x.spot.id) ∙ k e)))

  pub turned : (spot : Spot) → list_any (λ c. ties spot c.spot) (cites_in es) ≡ true → IsTurn es fs cited work next told more spot → IsBegun all before fs next more
  turned spot there t =
      let x = card_at (cites_in es) spot (sorted_in es u).once there in
      turned_card x.card (ap (λ s. find (has_id s.id) (cites_in es)) x.spot ∙ x.found) (subst (IsTurn es fs cited work next told more) (sym x.spot) t)

-- ---- the list before and after

-- the first spot was taken off, and later ones were put on
module _ (work rest next : Spot → Bool) (spot : Spot) (moves : Bool) (spots : List Spot)
    (popped : (q : Spot) → rest q ≡ cond (ties spot q) false (work q))
    (pushed : (q : Spot) → next q ≡ (rest q || (moves && is_later_of spots spot q)))
    (above : (q : Spot) → rest q ≡ true → is_before spot q ≡ true) where
  pub passes_on : (s : Spot) → next s ≡ false → bytes_eq s.id spot.id ≡ false → work s ≡ false
  passes_on s n d =
      let parts = or_parts (rest s) (moves && is_later_of spots spot s) (sym (pushed s) ∙ n) in
      let other : ties spot s ≡ false = turned_ties spot s ∙ no_tie s spot d in
      sym (popped s ∙ ap (λ b. cond b false (work s)) other) ∙ parts.0

  -- what is on it comes from before or is one of the spots
  pub comes_from : (s : Spot) → next s ≡ true → (work s ≡ true) ⊎ (is_later_of spots spot s ≡ true)
  comes_from s h = by (rest s) moves refl (sym (pushed s) ∙ h)
    where
      was : (b : Bool) → cond b false (work s) ≡ true → work s ≡ true
      was true k = absurd (false≢true k)
      was false k = k

      by : (r m : Bool) → rest s ≡ r → (rest s || (m && is_later_of spots spot s)) ≡ true → (work s ≡ true) ⊎ (is_later_of spots spot s ≡ true)
      by true m e k = inl (was (ties spot s) (sym (popped s) ∙ e))
      by false true e k = inr (sym (ap (λ b. b || is_later_of spots spot s) e) ∙ k)
      by false false e k = absurd (false≢true (sym (ap (λ b. b || false) e) ∙ k))

  later_before : (s : Spot) → is_later_of spots spot s ≡ true → is_before spot s ≡ true
  later_before s h = elim (is_before spot s) as (λ b. (b && list_any (ties s) spots) ≡ true → b ≡ true) [ true ↦ λ _. refl | false ↦ λ k. absurd (false≢true k) ] h

  pub comes_after : (s : Spot) → next s ≡ true → is_before spot s ≡ true
  comes_after s h = by (rest s) moves refl (sym (pushed s) ∙ h)
    where
      by : (r m : Bool) → rest s ≡ r → (rest s || (m && is_later_of spots spot s)) ≡ true → is_before spot s ≡ true
      by true m e k = above s e
      by false true e k = later_before s (sym (ap (λ b. b || is_later_of spots spot s) e) ∙ k)
      by false false e k = absurd (false≢true (sym (ap (λ b. b || false) e) ∙ k))

  pub is_listed : (s : Spot) → next s ≡ false → is_before spot s ≡ true → list_any (ties s) spots ≡ true → moves ≡ false
  is_listed s n a l =
      let parts = or_parts (rest s) (moves && is_later_of spots spot s) (sym (pushed s) ∙ n) in
      elim moves as (λ b. (b && is_later_of spots spot s) ≡ false → b ≡ false) [ true ↦ λ k. absurd (both_ways (is_later_of spots spot s) k (λ j. a j && l j)) | false ↦ λ _. refl ] parts.1

-- a spot of one of the cards that name an id is that of a card
pub later_there : (ts : List Cites) (id : Bytes) (from s : Spot) → is_later_of (spots_of (citing id ts)) from s ≡ true → list_any (λ t. ties s t.spot) ts ≡ true
later_there ts id from s h =
    cited_there ts id s (elim (is_before from s) as (λ b. (b && list_any (ties s) (spots_of (citing id ts))) ≡ true → list_any (ties s) (spots_of (citing id ts)) ≡ true) [ true ↦ λ k. k | false ↦ λ k. absurd (false≢true k) ] h)

-- what is left comes after the first
pub above_first : (spot s : Spot) (keys : List Spot) → All (IsLtBy spot_cmp spot) keys → list_any (ties s) keys ≡ true → is_before spot s ≡ true
above_first spot s [] a h = absurd (false≢true h)
above_first spot s (k ∷ keys) a h =
    elim (ties s k) as (λ b. ties s k ≡ b → (b || list_any (ties s) keys) ≡ true → is_before spot s ≡ true) [
      | true ↦ λ e _. subst (λ p. is_before spot p ≡ true) (sym (tied s k e)) (ap is_lt (All-head (IsLtBy spot_cmp spot) k keys a))
      | false ↦ λ e l. above_first spot s keys (All-tail (IsLtBy spot_cmp spot) k keys a) l
    ] refl h

-- ---- the measure

-- how many cards may still be looked at
abbrev pub left : List Cites → List Spot → ℕ
left ts [] = 0
left ts (s ∷ spots) = suc (later_count ts s)

pub left_fewer : (ts : List Cites) (spot : Spot) (rest keys : List Spot)
    → ((s : Spot) → list_any (ties s) keys ≡ true → is_before spot s ≡ true)
    → ((s : Spot) → list_any (ties s) keys ≡ true → list_any (λ t. ties s t.spot) ts ≡ true)
    → left ts keys < left ts (spot ∷ rest)
left_fewer ts spot rest [] a t = omega arith
left_fewer ts spot rest (k ∷ keys) a t =
    let on : list_any (ties k) (k ∷ keys) ≡ true = ap (λ b. b || list_any (ties k) keys) (ties_self k) in
    let lt = fewer spot k (a k on) ts (t k on) in
    omega (arith, lt)

-- ---- the end

no_chat : (o : Option Kept) → is_some (option_map (λ k. k.cites) o) ≡ false → option_and_then (λ k. k.chat) o ≡ None
no_chat None h = refl
no_chat (Some k) h = absurd (false≢true (sym h))

pub chats_right : (es : Entries) → AreUnder es → (all before : List Cites) (work : Spot → Bool) (told : List Moved) → IsBegun all before es work told
    → ((s : Spot) → work s ≡ false) → (id : Bytes) → chat_in es id ≡ chat_among (cites_in es) id
chats_right es u all before work told b none id =
    finished (chat_in es) work none (cites_in es) b.working.rule (λ i n. no_chat (kept_at es i) (sym (among_in es u i) ∙ n)) id

pub moves_right : (es : Entries) → AreUnder es → (all before : List Cites) (work : Spot → Bool) (told : List Moved) → IsBegun all before es work told
    → ((s : Spot) → work s ≡ false) → told ≡ moves all before (cites_in es)
moves_right es u all before work told b none = all_told (chat_in es) all before (cites_in es) told b.working.moves (chats_right es u all before work told b none)

-- ---- a card that is looked at

-- the cites at an id are those that are found there
pub card_is : (o : Option Kept) (k : Kept) (t : Cites) → o ≡ Some k → option_map (λ c. c.cites) o ≡ Some t → k.cites ≡ t
card_is o k t e h = let both : Some k.cites ≡ Some t = sym (ap (option_map (λ c. c.cites)) e) ∙ h in cc

pub no_card : (o : Option Kept) (t : Cites) → o ≡ None → option_map (λ c. c.cites) o ≡ Some t → ⊥
no_card o t e h = let both : None ≡ Some t = sym (ap (option_map (λ (c : Kept). c.cites)) e) ∙ h in cc

-- nothing is on a list from which nothing was taken
pub none_on : (keys : List Spot) (first : Option Spot) → first ≡ None → (0 < length keys → is_some first ≡ true) → (s : Spot) → list_any (ties s) keys ≡ false
none_on [] first e some s = refl
none_on (k ∷ keys) first e some s = absurd (false≢true (sym (ap is_some e) ∙ some (omega arith)))
