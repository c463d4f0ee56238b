-- The state of a chat after a card came, went or was marked anew at its place.
use Rattle.std.proofs.Common.{◌≡◌, refl, sym, ap, ◌∙◌, subst, ℕ, ◌+◌, ◌<◌, ◌≤◌, true, false, Option, Result, Ok, Err, List, [], ◌∷◌, ◌++◌, length, map, arith}
use Rattle.std.specs.Prelude.{slice_set, IfOk, OnOk}
use Rattle.std.specs.List.{HoldsAt, insert, remove, list_any}
use Rattle.std.specs.List.Sorted.{IsBinarySearchResult, IsPartitionPoint, IsStrictlySortedBy}
use Rattle.std.specs.declared.cmp.Ordering.TheVariants.{Less, Equal, Greater}
use Rattle.std.specs.Ordering.{eq_by_cmp}
use Rattle.std.proofs.lemmas.List.{length-append, length-map, map-append}
use Rattle.card_type.specs.declared.card.Card.{Card}
use Rattle.card_type.specs.declared.spot.Spot.{Spot}
use Rattle.card_type.specs.Spots.{spot_cmp}
use Rattle.card_type.proofs.Orders.{spots_total}
use Rattle.mailbox_model.specs.declared.row.Mark.{Mark}
use Rattle.mailbox_model.specs.Lists.{Bytes}
use Rattle.mailbox_model.specs.States.{Shown}
use Rattle.group_roster.specs.Setters.{RestsOn, at, setters_put, setters_taken, stays_with, stays_without}
use Rattle.group_roster.specs.Setters.{AreInOrder as AreAtInOrder}
use Rattle.group_roster.proofs.Founded.{rests_with, rests_without}
use Rattle.group_roster.proofs.Seams.{insert_seam, remove_seam}
use Rattle.chat_view.specs.declared.state.ChatState.{ChatState}
use Rattle.chat_view.specs.Changes.{AreFew, AreInOrder, marked_at, with_at, without_at}
use Rattle.chat_view.specs.Standing.{IsMarkedFor, StandsFor, placed_at, shown}
use Rattle.chat_view.proofs.Placed.{index_of, none_tie, place_of, set_seam, sorted_without, partition, ties_there}
use Rattle.chat_view.proofs.Told.{kept_marks, marked_from, rests_on, settled_marked, spots_same, stands_from}

-- what holds of any answer
pub on_ok_each : {T E P : Type 0} {Q : T → Type 0} (r : Result T E) → (P → (x : T) → Q x) → OnOk r P → IfOk r Q
on_ok_each (Ok x) f p = f p x
on_ok_each (Err e) f p = tt

-- as many marks as cards
pub as_many : (cards : List Shown) (s : ChatState) → IsMarkedFor cards s → length s.marks ≡ length cards
as_many cards s is = ap length is.marks ∙ length-map cards (λ c. c.mark)

-- and as many as spots
pub has_mark : (cards : List Shown) (s : ChatState) → IsMarkedFor cards s → (i : ℕ) → i < length s.spots → i < length s.marks
has_mark cards s is i within =
    omega (arith, within, as_many cards s is, ap length is.spots, length-map cards (λ c. c.spot))

module _ (before : List Shown) (spot : Spot) (card : Card) (mark : Option Mark) (after : List Shown) where
  abbrev c : Shown
  c = shown spot card mark

  abbrev spots_before : List Spot
  spots_before = map (λ d. d.spot) before

  abbrev spots_after : List Spot
  spots_after = map (λ d. d.spot) after

  spots_with : map (λ d. d.spot) (before ++ c ∷ after) ≡ spots_before ++ spot ∷ spots_after
  spots_with = map-append (λ d. d.spot) before (c ∷ after)

  spots_without : map (λ d. d.spot) (before ++ after) ≡ spots_before ++ spots_after
  spots_without = map-append (λ d. d.spot) before after

  marks_with : map (λ d. d.mark) (before ++ c ∷ after) ≡ map (λ d. d.mark) before ++ mark ∷ map (λ d. d.mark) after
  marks_with = map-append (λ d. d.mark) before (c ∷ after)

  placed_with : placed_at (before ++ c ∷ after) ≡ placed_at before ++ at spot card ∷ placed_at after
  placed_with = map-append (λ d. at d.spot d.card) before (c ∷ after)

  placed_without : placed_at (before ++ after) ≡ placed_at before ++ placed_at after
  placed_without = map-append (λ d. at d.spot d.card) before after

  between : AreInOrder (before ++ c ∷ after) → IsStrictlySortedBy spot_cmp (spots_before ++ spot ∷ spots_after)
  between order = subst (IsStrictlySortedBy spot_cmp) spots_with order

  order_placed : AreInOrder (before ++ c ∷ after) → AreAtInOrder (placed_at before ++ at spot card ∷ placed_at after)
  order_placed order =
      subst (IsStrictlySortedBy spot_cmp) (sym (spots_same (before ++ c ∷ after)) ∙ ap (λ ps. map (λ a. a.spot) ps) placed_with) order

  -- with the others few, all are counted
  pub few_with : (s : ChatState) → IsMarkedFor (before ++ c ∷ after) s → AreFew (before ++ after) → length s.marks < 4294967296
  few_with s is few =
      omega (arith, few, as_many (before ++ c ∷ after) s is, length-append before (c ∷ after), length-append before after)

  pub few_without : (s : ChatState) → IsMarkedFor (before ++ after) s → AreFew (before ++ after) → length s.marks < 4294967295
  few_without s is few = omega (arith, few, as_many (before ++ after) s is)

  -- ---- the place of a card that is put in

  module _ (s : ChatState) (is : s.spots ≡ map (λ d. d.spot) (before ++ after)) (order : AreInOrder (before ++ c ∷ after)) where
    spots_are : s.spots ≡ spots_before ++ spots_after
    spots_are = is ∙ spots_without

    pub in_order : IsStrictlySortedBy spot_cmp s.spots
    in_order = subst (IsStrictlySortedBy spot_cmp) (sym spots_are) (sorted_without spot_cmp spots_total spots_before spot spots_after (between order))

    pub not_there : list_any (eq_by_cmp spot_cmp spot) s.spots ≡ false
    not_there = ap (list_any (eq_by_cmp spot_cmp spot)) spots_are ∙ none_tie spot_cmp spots_total spots_before spot spots_after (between order)

    module _ (i : ℕ) where
      pub put_place : i ≤ length s.spots → IsBinarySearchResult (λ y. spot_cmp y spot) s.spots (Err i) → i ≡ length before
      put_place within found =
          let parts = partition spot_cmp spots_total spot s.spots in_order i within found in
          place_of spot_cmp spots_total spots_before spot spots_after i (between order) (subst (λ xs. i ≤ length xs) spots_are within)
          (subst (λ xs. IsPartitionPoint (λ y. spot_cmp y spot ≡ Less) (λ y. spot_cmp y spot ≡ Greater) xs i) spots_are parts)
          ∙ length-map before (λ d. d.spot)

      -- where its place is the end, no card is after it
      pub put_last : i ≡ length before → length s.spots ≤ i → after ≡ []
      put_last place end = none after (ap length is ∙ length-map (before ++ after) (λ d. d.spot) ∙ length-append before after)
        where
          none : (later : List Shown) → length s.spots ≡ length before + length later → later ≡ []
          none [] h = refl
          none (d ∷ later) h = absurd (omega (arith, h, place, end))

  module _ (s : ChatState) (i : ℕ) (place : i ≡ length before) where
    pub put_marked : IsMarkedFor (before ++ after) s → IsMarkedFor (before ++ c ∷ after) (with_at i spot mark s)
    put_marked is =
        let spots = ap (λ xs. insert xs i spot) (is.spots ∙ spots_without) ∙ insert_seam spots_before spots_after i spot (place ∙ sym (length-map before (λ d. d.spot))) ∙ sym spots_with in
        let marks_are = is.marks ∙ map-append (λ d. d.mark) before after in
        let marks = ap (λ xs. insert xs i mark) marks_are ∙ insert_seam (map (λ d. d.mark) before) (map (λ d. d.mark) after) i mark (place ∙ sym (length-map before (λ d. d.mark))) ∙ sym marks_with in
        settled_marked (before ++ c ∷ after) (insert s.spots i spot) (insert s.marks i mark) s spots marks

    pub put_stands : (me : Bytes) → StandsFor me (before ++ after) s → AreInOrder (before ++ c ∷ after) → stays_with s.key s.roster s.setters (at spot card) ≡ true
        → StandsFor me (before ++ c ∷ after) (with_at i spot mark (record s { setters = setters_put s.key s.setters (at spot card) }))
    put_stands me is order stays =
        let rests = subst (λ ps. RestsOn me s.key ps s.roster s.setters) placed_without (rests_on me (before ++ after) s is) in
        let rests_now = rests_with me s.key (placed_at before) (at spot card) (placed_at after) s.roster s.setters (order_placed order) rests stays in
        let setters = setters_put s.key s.setters (at spot card) in
        stands_from me (before ++ c ∷ after) (with_at i spot mark (record s { setters = setters })) (kept_marks (before ++ c ∷ after) (with_at i spot mark s) setters (put_marked (marked_from me (before ++ after) s is)))
        (subst (λ ps. RestsOn me s.key ps s.roster setters) (sym placed_with) rests_now)

  -- ---- the place of a card that is there

  module _ (s : ChatState) (is : s.spots ≡ map (λ d. d.spot) (before ++ c ∷ after)) (order : AreInOrder (before ++ c ∷ after)) where
    spots_there : s.spots ≡ spots_before ++ spot ∷ spots_after
    spots_there = is ∙ spots_with

    pub there : list_any (eq_by_cmp spot_cmp spot) s.spots ≡ true
    there = ap (list_any (eq_by_cmp spot_cmp spot)) spots_there ∙ ties_there spot_cmp spots_total spots_before spot spots_after

    pub sorted_there : IsStrictlySortedBy spot_cmp s.spots
    sorted_there = subst (IsStrictlySortedBy spot_cmp) (sym spots_there) (between order)

    pub there_place : (i : ℕ) → i < length s.spots → HoldsAt (λ y. spot_cmp y spot ≡ Equal) s.spots i → i ≡ length before
    there_place i within found =
        index_of spot_cmp spots_total spots_before spot spots_after i (between order) (subst (λ xs. i < length xs) spots_there within)
        (subst (λ xs. HoldsAt (λ y. spot_cmp y spot ≡ Equal) xs i) spots_there found)
        ∙ length-map before (λ d. d.spot)

  module _ (s : ChatState) (i : ℕ) (place : i ≡ length before) where
    pub taken_marked : IsMarkedFor (before ++ c ∷ after) s → IsMarkedFor (before ++ after) (without_at i s)
    taken_marked is =
        let spots = ap (λ xs. remove xs i) (is.spots ∙ spots_with) ∙ remove_seam spots_before spots_after i spot (place ∙ sym (length-map before (λ d. d.spot))) ∙ sym spots_without in
        let marks = ap (λ xs. remove xs i) (is.marks ∙ marks_with) ∙ remove_seam (map (λ d. d.mark) before) (map (λ d. d.mark) after) i mark (place ∙ sym (length-map before (λ d. d.mark)))
        ∙ sym (map-append (λ d. d.mark) before after) in
        settled_marked (before ++ after) (remove s.spots i) (remove s.marks i) s spots marks

    pub remarked : (other : Option Mark) → IsMarkedFor (before ++ c ∷ after) s → IsMarkedFor (before ++ shown spot card other ∷ after) (marked_at i other s)
    remarked other is =
        let spots = is.spots ∙ spots_with ∙ sym (map-append (λ d. d.spot) before (shown spot card other ∷ after)) in
        let marks = ap (λ xs. slice_set xs i other) (is.marks ∙ marks_with) ∙ set_seam (map (λ d. d.mark) before) (map (λ d. d.mark) after) i mark other (place ∙ sym (length-map before (λ d. d.mark)))
        ∙ sym (map-append (λ d. d.mark) before (shown spot card other ∷ after)) in
        settled_marked (before ++ shown spot card other ∷ after) s.spots (slice_set s.marks i other) s spots marks

    module _ (me : Bytes) (is : StandsFor me (before ++ c ∷ after) s) where
      rests : RestsOn me s.key (placed_at before ++ at spot card ∷ placed_at after) s.roster s.setters
      rests = subst (λ ps. RestsOn me s.key ps s.roster s.setters) placed_with (rests_on me (before ++ c ∷ after) s is)

      pub taken_stands : AreInOrder (before ++ c ∷ after) → 1 < length s.spots → stays_without s.key s.setters spot ≡ true
          → StandsFor me (before ++ after) (without_at i (record s { setters = setters_taken s.key s.setters spot }))
      taken_stands order more stays =
          let count = ap (λ t. length t.spots) is ∙ length-map (before ++ c ∷ after) (λ d. d.spot) ∙ length-append before (c ∷ after) in
          let left : 0 < length (placed_at before ++ placed_at after) =
          omega (arith, more, count, length-append (placed_at before) (placed_at after), length-map before (λ d. at d.spot d.card), length-map after (λ d. at d.spot d.card)) in
          let rests_now = rests_without me s.key (placed_at before) (at spot card) (placed_at after) s.roster s.setters (order_placed order) left rests stays in
          let setters = setters_taken s.key s.setters spot in
          stands_from me (before ++ after) (without_at i (record s { setters = setters })) (kept_marks (before ++ after) (without_at i s) setters (taken_marked (marked_from me (before ++ c ∷ after) s is)))
          (subst (λ ps. RestsOn me s.key ps s.roster setters) (sym placed_without) rests_now)

      pub marked_stands : (other : Option Mark) → StandsFor me (before ++ shown spot card other ∷ after) (marked_at i other s)
      marked_stands other =
          stands_from me (before ++ shown spot card other ∷ after) (marked_at i other s) (remarked other (marked_from me (before ++ c ∷ after) s is))
          (subst (λ ps. RestsOn me s.key ps s.roster s.setters) (sym (map-append (λ d. at d.spot d.card) before (shown spot card other ∷ after))) rests)
