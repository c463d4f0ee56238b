-- The list of a chat's cards, where the chat gets one more, loses one or has one marked anew.
use Rattle.std.proofs.Common.{◌≡◌, ◌≢◌, refl, sym, ap, ◌∙◌, subst, suc, ◌≤◌, Bool, true, false, ◌||◌, cond, Option, Some, None, is_some, List, [], ◌∷◌, ◌++◌, length, map, append_assoc, ◌⊎◌, inl, inr, arith}
use Rattle.std.specs.Prelude.{if◌then◌else◌}
use Rattle.std.specs.List.{All, AllByRecursion, IsDistinct, filter, find}
use Rattle.std.specs.List.Sorted.{IsStrictlySortedBy}
use Rattle.std.specs.Option.{option_to_list}
use Rattle.std.specs.Str.{bytes_eq}
use Rattle.std.specs.declared.cmp.Ordering.TheVariants.{Equal}
use Rattle.std.specs.Cmp.Lexicographic.{bytes_decides}
use Rattle.std.proofs.lemmas.Bool.{cases_Bool, false≢true}
use Rattle.std.proofs.lemmas.Cmp.{nat_list_eq_equiv}
use Rattle.std.proofs.lemmas.List.{length-append, length-map, map-append}
use Rattle.std.proofs.lemmas.List.Elements.{All-from_recursion}
use Rattle.std.proofs.lemmas.Map.Made.{length-le_from_is_member}
use Rattle.card_type.specs.declared.card.Card.{Card}
use Rattle.card_type.specs.declared.spot.Spot.{Spot}
use Rattle.card_type.specs.Effects.{is_among}
use Rattle.card_type.specs.Spots.{spot_cmp}
use Rattle.card_type.proofs.Orders.{spots_exact, spots_total}
use Rattle.mailbox_model.specs.declared.row.Mark.{Mark}
use Rattle.mailbox_model.specs.Lists.{Bytes}
use Rattle.mailbox_model.specs.States.{Shown}
use Rattle.chat_view.specs.Changes.{AreFew, AreInOrder}
use Rattle.chat_view.specs.Standing.{shown}
use Rattle.chat_view.proofs.Placed.{sorted_without}
use Rattle.chat_states.specs.Families.{AreCardsOf, CoverAll, IsSmall}
use Rattle.chat_states.proofs.Around.{filter_alone, filter_counted, filter_skipped, no_length, passing}
use Rattle.chat_states.proofs.Ordered.{one_from, room}

abbrev pub ById : Type 0
ById = Bytes → Option Shown

-- with another card, or none, at one id
abbrev pub with_one : Bytes → Option Shown → ById → ById
with_one id card by_id = λ i. if bytes_eq id i then card else by_id i

-- the cards with an id
abbrev has_id : Bytes → Shown → Bool
has_id id c = bytes_eq id c.spot.id

id_itself : (c : Shown) → has_id c.spot.id c ≡ true
id_itself c = (bytes_decides c.spot.id c.spot.id).1 refl

-- ---- one list

pub one_list : (by_id : ById) (cards others : List Shown) → AreCardsOf by_id cards → AreCardsOf by_id others → cards ≡ others
one_list by_id cards others are these =
    one_from (λ c. c.spot) spot_cmp spots_total has_id (λ c. c.spot.id) id_itself cards others are.order these.order (λ id. are.each id ∙ sym (these.each id))

-- ---- how many

at_most : (o : Option Shown) → length (option_to_list o) ≤ 1
at_most None = omega arith
at_most (Some c) = omega arith

-- what is apart from all, by what passes
apart : (id : Bytes) (ds : List Shown) → filter (has_id id) ds ≡ [] → AllByRecursion (λ i. bytes_eq id i ≡ false) (map (λ d. d.spot.id) ds)
apart id [] h = tt
apart id (d ∷ ds) h =
    elim (has_id id d) as (λ b. has_id id d ≡ b → cond b (d ∷ filter (has_id id) ds) (filter (has_id id) ds) ≡ [] → AllByRecursion (λ i. bytes_eq id i ≡ false) (map (λ d. d.spot.id) (d ∷ ds))) [
      | true ↦ λ e g. cc
      | false ↦ λ e g. (e, apart id ds g)
    ] refl h

-- no id twice, where each is that of one card at most
each_once : (cards : List Shown) → ((id : Bytes) → length (filter (has_id id) cards) ≤ 1) → IsDistinct bytes_eq (map (λ c. c.spot.id) cards)
unfolding IsDistinct
each_once [] once = tt
each_once (c ∷ more) once = (apart c.spot.id more (no_length (filter (has_id c.spot.id) more) none), each_once more (λ id. fewer (has_id id c) (filter (has_id id) more) (once id)))
  where
    counted : length (filter (has_id c.spot.id) (c ∷ more)) ≡ suc (length (filter (has_id c.spot.id) more))
    counted = filter_counted (has_id c.spot.id) c more [] (id_itself c)

    none : length (filter (has_id c.spot.id) more) ≡ 0
    none = omega (arith, counted, once c.spot.id)

    fewer : (b : Bool) (ds : List Shown) → length (cond b (c ∷ ds) ds) ≤ 1 → length ds ≤ 1
    fewer true ds h = omega (arith, h)
    fewer false ds h = h

-- an id among those of the cards is that of one of them
covered : (by_id : ById) (cards : List Shown) (id : Bytes) → is_among (map (λ c. c.spot.id) cards) id ≡ true → filter (has_id id) cards ≡ option_to_list (by_id id) → is_some (by_id id) ≡ true
covered by_id cards id among each = some (by_id id) each
  where
    one_passes : (ds : List Shown) → is_among (map (λ c. c.spot.id) ds) id ≡ true → filter (has_id id) ds ≢ []
    one_passes [] h e = false≢true h
    one_passes (d ∷ ds) h e =
        elim (has_id id d) as (λ b. (b || is_among (map (λ c. c.spot.id) ds) id) ≡ true → cond b (d ∷ filter (has_id id) ds) (filter (has_id id) ds) ≡ [] → ⊥) [
          | true ↦ λ g k. cc
          | false ↦ λ g k. one_passes ds g k
        ] h e

    some : (o : Option Shown) → filter (has_id id) cards ≡ option_to_list o → is_some o ≡ true
    some (Some c) e = refl
    some None e = absurd (one_passes cards among e)

-- no more cards than ids that cover them
pub few : (by_id : ById) (ids : List Bytes) (cards : List Shown) → CoverAll ids by_id → AreCardsOf by_id cards → length cards ≤ length ids
few by_id ids cards cover are =
    let once = each_once cards (λ id. subst (λ cs. length cs ≤ 1) (sym (are.each id)) (at_most (by_id id))) in
    let within = length-le_from_is_member nat_list_eq_equiv (map (λ c. c.spot.id) cards) ids once (λ id among. cover id (covered by_id cards id among (are.each id))) in
    subst (λ n. n ≤ length ids) (length-map cards (λ c. c.spot.id)) within

-- ---- one card and the others

-- an id is this one, or another
with_this : (id i : Bytes) (card : Option Shown) (by_id : ById) → bytes_eq id i ≡ true → with_one id card by_id i ≡ card
with_this id i card by_id e = ap (λ b. if b then card else by_id i) e

with_other : (id i : Bytes) (card : Option Shown) (by_id : ById) → bytes_eq id i ≡ false → with_one id card by_id i ≡ by_id i
with_other id i card by_id e = ap (λ b. if b then card else by_id i) e

turned : (a b : Bytes) (o : Bool) → bytes_eq a b ≡ o → bytes_eq b a ≡ o
turned a b o e = nat_list_eq_equiv.symm b a ∙ e

module _ (by_id : ById) (before : List Shown) (c : Shown) (after : List Shown) where
  abbrev its : Bytes
  its = c.spot.id

  others : AreInOrder (before ++ c ∷ after) → AreInOrder (before ++ after)
  others order =
      subst (IsStrictlySortedBy spot_cmp) (sym (map-append (λ d. d.spot) before after))
      (sorted_without spot_cmp spots_total (map (λ d. d.spot) before) c.spot (map (λ d. d.spot) after)
      (subst (IsStrictlySortedBy spot_cmp) (map-append (λ d. d.spot) before (c ∷ after)) order))

  -- the others, where the card leaves
  pub without_card : AreCardsOf by_id (before ++ c ∷ after) → AreCardsOf (with_one its None by_id) (before ++ after)
  without_card are = record { order = others are.order; each = λ i. at i (cases_Bool (bytes_eq its i)) }
    where
      at : (i : Bytes) → (bytes_eq its i ≡ true) ⊎ (bytes_eq its i ≡ false) → filter (has_id i) (before ++ after) ≡ option_to_list (with_one its None by_id i)
      at i (inl this) =
          let counted = filter_counted (has_id i) c after before (turned its i true this) in
          let once = ap length (are.each i) in
          no_length (filter (has_id i) (before ++ after)) (omega (arith, counted, once, at_most (by_id i)))
          ∙ sym (ap option_to_list (with_this its i None by_id this))
      at i (inr other) =
          sym (filter_skipped (has_id i) c after before (turned its i false other)) ∙ are.each i ∙ sym (ap option_to_list (with_other its i None by_id other))

  -- all of them, where the card comes
  pub with_card : AreInOrder (before ++ c ∷ after) → AreCardsOf (with_one its None by_id) (before ++ after) → AreCardsOf (with_one its (Some c) by_id) (before ++ c ∷ after)
  with_card order are = record { order = order; each = λ i. at i (cases_Bool (bytes_eq its i)) }
    where
      at : (i : Bytes) → (bytes_eq its i ≡ true) ⊎ (bytes_eq its i ≡ false) → filter (has_id i) (before ++ c ∷ after) ≡ option_to_list (with_one its (Some c) by_id i)
      at i (inl this) =
          let none = are.each i ∙ ap option_to_list (with_this its i None by_id this) in
          filter_alone (has_id i) c after before (turned its i true this) none ∙ sym (ap option_to_list (with_this its i (Some c) by_id this))
      at i (inr other) =
          filter_skipped (has_id i) c after before (turned its i false other) ∙ are.each i ∙ ap option_to_list (with_other its i None by_id other)
          ∙ sym (ap option_to_list (with_other its i (Some c) by_id other))

-- ---- each card at its id

own_at : (by_id : ById) (before : List Shown) (c : Shown) (after : List Shown) → AreCardsOf by_id (before ++ c ∷ after) → by_id c.spot.id ≡ Some c
own_at by_id before c after are = one (by_id c.spot.id) (sym (are.each c.spot.id) ∙ filter_alone (has_id c.spot.id) c after before (id_itself c) none)
  where
    counted : length (filter (has_id c.spot.id) (before ++ c ∷ after)) ≡ suc (length (filter (has_id c.spot.id) (before ++ after)))
    counted = filter_counted (has_id c.spot.id) c after before (id_itself c)

    none : filter (has_id c.spot.id) (before ++ after) ≡ []
    none = no_length (filter (has_id c.spot.id) (before ++ after)) (omega (arith, counted, ap length (are.each c.spot.id), at_most (by_id c.spot.id)))

    one : (o : Option Shown) → option_to_list o ≡ c ∷ [] → o ≡ Some c
    one None e = cc
    one (Some d) e = let same : d ≡ c = cc in ap Some same

pub own : (by_id : ById) (cards : List Shown) → AreCardsOf by_id cards → All (λ c. by_id c.spot.id ≡ Some c) cards
own by_id cards are = All-from_recursion (λ c. by_id c.spot.id ≡ Some c) cards (from [] cards are)
  where
    from : (before rest : List Shown) → AreCardsOf by_id (before ++ rest) → AllByRecursion (λ c. by_id c.spot.id ≡ Some c) rest
    from before [] are = tt
    from before (c ∷ more) are =
        (own_at by_id before c more are, from (before ++ c ∷ []) more (subst (AreCardsOf by_id) (sym (append_assoc before (c ∷ []) more)) are))

-- where no id stands twice, what is found at it is all that has it
one_found : (cards : List Shown) (id : Bytes) → IsDistinct bytes_eq (map (λ c. c.spot.id) cards) → filter (has_id id) cards ≡ option_to_list (find (has_id id) cards)
unfolding IsDistinct
one_found [] id once = refl
one_found (c ∷ more) id once =
    elim (has_id id c) as (λ b. has_id id c ≡ b → cond b (c ∷ filter (has_id id) more) (filter (has_id id) more) ≡ option_to_list (cond b (Some c) (find (has_id id) more))) [
      | true ↦ λ e. ap (λ ds. c ∷ ds) (none more (sym ((bytes_decides id c.spot.id).0 e)) once.0)
      | false ↦ λ e. one_found more id once.1
    ] refl
  where
    none : (ds : List Shown) → c.spot.id ≡ id → AllByRecursion (λ i. bytes_eq c.spot.id i ≡ false) (map (λ d. d.spot.id) ds) → filter (has_id id) ds ≡ []
    none [] same a = refl
    none (d ∷ ds) same a =
        ap (λ b. cond b (d ∷ filter (has_id id) ds) (filter (has_id id) ds)) (ap (λ i. bytes_eq i d.spot.id) (sym same) ∙ a.0) ∙ none ds same a.1

pub found : (by_id : ById) (cards : List Shown) → AreInOrder cards → IsDistinct bytes_eq (map (λ c. c.spot.id) cards)
    → ((id : Bytes) → by_id id ≡ find (λ c. bytes_eq id c.spot.id) cards) → AreCardsOf by_id cards
found by_id cards order once each = record { order = order; each = λ id. one_found cards id once ∙ ap option_to_list (sym (each id)) }

-- ---- a card that comes

-- an id of no card
none_with : (by_id : ById) (id : Bytes) (cards : List Shown) → by_id id ≡ None → AreCardsOf by_id cards → AreCardsOf (with_one id None by_id) cards
none_with by_id id cards none are = record { order = are.order; each = λ i. are.each i ∙ ap option_to_list (same i (cases_Bool (bytes_eq id i))) }
  where
    same : (i : Bytes) → (bytes_eq id i ≡ true) ⊎ (bytes_eq id i ≡ false) → by_id i ≡ with_one id None by_id i
    same i (inl this) = ap by_id (sym ((bytes_decides id i).0 this)) ∙ none ∙ sym (with_this id i None by_id this)
    same i (inr other) = sym (with_other id i None by_id other)

-- it ties with none of them
no_ties : (c : Shown) (cards : List Shown) → filter (has_id c.spot.id) cards ≡ [] → AllByRecursion (λ d. spot_cmp c.spot d.spot ≢ Equal) cards
no_ties c [] h = tt
no_ties c (d ∷ ds) h =
    elim (has_id c.spot.id d) as (λ b. has_id c.spot.id d ≡ b → cond b (d ∷ filter (has_id c.spot.id) ds) (filter (has_id c.spot.id) ds) ≡ [] → AllByRecursion (λ d. spot_cmp c.spot d.spot ≢ Equal) (d ∷ ds)) [
      | true ↦ λ e g. cc
      | false ↦ λ e g. ((λ tie. false≢true (sym e ∙ (bytes_decides c.spot.id d.spot.id).1 (ap (λ (s : Spot). s.id) (spots_exact c.spot d.spot tie)))), no_ties c ds g)
    ] refl h

-- it has a place among them, and then all are those of the chat
pub record Comes (by_id : ById) (c : Shown) (cards : List Shown) : Type 0 where
  pub before : List Shown
  pub after : List Shown
  pub is : cards ≡ before ++ after
  pub order : AreInOrder (before ++ c ∷ after)
  pub are : AreCardsOf (with_one c.spot.id (Some c) by_id) (before ++ c ∷ after)

pub comes : (by_id : ById) (c : Shown) (cards : List Shown) → by_id c.spot.id ≡ None → AreCardsOf by_id cards → Comes by_id c cards
comes by_id c cards none are =
    let there = room (λ d. d.spot) spot_cmp spots_total c cards (no_ties c cards (are.each c.spot.id ∙ ap option_to_list none)) are.order in
    record {
      before = there.before;
      after = there.after;
      is = there.is;
      order = there.order;
      are = with_card by_id there.before c there.after there.order (subst (AreCardsOf (with_one c.spot.id None by_id)) there.is (none_with by_id c.spot.id cards none are));
    }

-- ---- a card that is there

pub record IsThere (by_id : ById) (c : Shown) (cards : List Shown) : Type 0 where
  pub before : List Shown
  pub after : List Shown
  pub is : cards ≡ before ++ c ∷ after
  pub order : AreInOrder (before ++ c ∷ after)
  pub rest : AreCardsOf (with_one c.spot.id None by_id) (before ++ after)

pub is_there : (by_id : ById) (c : Shown) (cards : List Shown) → by_id c.spot.id ≡ Some c → AreCardsOf by_id cards → IsThere by_id c cards
is_there by_id c cards some are =
    let beside = passing (has_id c.spot.id) cards c [] (are.each c.spot.id ∙ ap option_to_list some) in
    let those = subst (AreCardsOf by_id) beside.is are in
    record { before = beside.before; after = beside.after; is = beside.is; order = those.order; rest = without_card by_id beside.before c beside.after those }

-- with another mark
pub marked_anew : (by_id : ById) (before : List Shown) (spot : Spot) (card : Card) (mark other : Option Mark) (after : List Shown)
    → AreInOrder (before ++ shown spot card mark ∷ after) → AreCardsOf (with_one spot.id None by_id) (before ++ after)
    → AreCardsOf (with_one spot.id (Some (shown spot card other)) by_id) (before ++ shown spot card other ∷ after)
marked_anew by_id before spot card mark other after order rest =
    with_card by_id before (shown spot card other) after
    (subst (IsStrictlySortedBy spot_cmp) (map-append (λ d. d.spot) before (shown spot card mark ∷ after) ∙ sym (map-append (λ d. d.spot) before (shown spot card other ∷ after))) order)
    rest

-- ---- few cards

-- the others are few
pub few_others : (by_id : ById) (before : List Shown) (c : Shown) (after : List Shown) → IsSmall by_id → AreCardsOf by_id (before ++ c ∷ after) → AreFew (before ++ after)
few_others by_id before c after small are =
    omega (arith, small.few, few by_id small.ids (before ++ c ∷ after) small.all are, length-append before (c ∷ after), length-append before after)

pub few_all : (by_id : ById) (cards : List Shown) → IsSmall by_id → AreCardsOf by_id cards → AreFew cards
few_all by_id cards small are = omega (arith, small.few, few by_id small.ids cards small.all are)
