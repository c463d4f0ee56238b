-- The state of one chat, where its cards change by one, or its roster is folded anew.
use Rattle.std.proofs.Common.{◌≡◌, refl, sym, ap, ◌∙◌, subst, Bool, true, false, Option, Some, None, List, [], ◌∷◌, ◌++◌, length, map, arith}
use Rattle.std.specs.Prelude.{not, ◌&&◌, ◌||◌, if◌then◌else◌, filter, nat_lt}
use Rattle.std.specs.List.Sorted.{IsStrictlySortedBy}
use Rattle.std.specs.List.{list_all, list_any}
use Rattle.std.specs.Option.{option_to_list}
use Rattle.std.specs.Ordering.{eq_by_cmp, is_lt}
use Rattle.std.specs.Str.{bytes_eq}
use Rattle.std.proofs.lemmas.Bool.{false≢true, lt-ltb}
use Rattle.std.proofs.lemmas.List.{length-append, length-map}
use Rattle.card_type.specs.declared.card.Card.{Card}
use Rattle.card_type.specs.declared.key.ChatKey.{ChatKey}
use Rattle.card_type.specs.declared.spot.Spot.{Spot}
use Rattle.card_type.specs.Kinds.{has_some}
use Rattle.card_type.specs.Spots.{spot_cmp}
use Rattle.mailbox_model.specs.declared.roster.Roster.{Roster}
use Rattle.mailbox_model.specs.declared.row.Mark.{Mark}
use Rattle.mailbox_model.specs.Lists.{Bytes}
use Rattle.mailbox_model.specs.States.{Shown}
use Rattle.group_roster.specs.declared.setters.Setters.{Setters}
use Rattle.group_roster.specs.Setters.{RestsOn, at, stays_with}
use Rattle.chat_view.specs.declared.state.ChatState.{ChatState}
use Rattle.chat_view.specs.Changes.{AreFew, AreInOrder, takes_in}
use Rattle.chat_view.specs.Standing.{IsMarkedFor, StandsFor, placed_at, shown, state_of}
use Rattle.chat_view.proofs.Told.{marked_from, stands_from}
use Rattle.chat_states.specs.Families.{AreCardsOf, IsSmall}
use Rattle.chat_states.specs.States.{Follows, FollowsChat, Has}
use Rattle.chat_states.proofs.Around.{no_length}
use Rattle.chat_states.proofs.OneCard.{ById, comes, few_all, few_others, is_there, marked_anew, one_list, with_one}

-- ---- a state without spots

-- it takes any card in, and so the chat is as settled as it was
pub takes_first : (s : ChatState) (spot : Spot) (card : Card) (unsettled : Bool) → s.spots ≡ [] → (unsettled || not (takes_in s spot card)) ≡ unsettled
takes_first s spot card unsettled none =
    (λ i. unsettled || not (not (list_any (eq_by_cmp spot_cmp spot) (none i))
    && (list_all (λ other. is_lt (spot_cmp other spot)) (none i) || stays_with s.key s.roster s.setters (at spot card))))
    ∙ by unsettled
  where
    by : (b : Bool) → (b || false) ≡ b
    by true = refl
    by false = refl

in_order : IsStrictlySortedBy spot_cmp []
unfolding IsStrictlySortedBy
in_order = tt

pub no_order : (s : ChatState) → s.spots ≡ [] → IsStrictlySortedBy spot_cmp s.spots
no_order s none = subst (IsStrictlySortedBy spot_cmp) (sym none) in_order

-- ---- a list that is empty, or not

pub some_there : {X : Type 0} (before : List X) (x : X) (after : List X) → has_some (before ++ x ∷ after) ≡ true
some_there before x after = lt-ltb 0 (length (before ++ x ∷ after)) (omega (arith, length-append before (x ∷ after)))

same_some : {X Y : Type 0} (f : X → Y) (xs : List X) → has_some (map f xs) ≡ has_some xs
same_some f xs = ap (λ n. nat_lt 0 n) (length-map xs f)

-- no cards have any id
none_of : (by_id : ById) (cards : List Shown) → AreCardsOf by_id cards → cards ≡ [] → (id : Bytes) → by_id id ≡ None
none_of by_id cards are none id = by (by_id id) (sym (are.each id) ∙ ap (λ cs. filter (λ c. bytes_eq id c.spot.id) cs) none)
  where
    by : (o : Option Shown) → option_to_list o ≡ [] → o ≡ None
    by None e = refl
    by (Some c) e = cc

-- where no card has an id, none are all
pub are_none : (by_id : ById) → ((id : Bytes) → by_id id ≡ None) → AreCardsOf by_id []
unfolding IsStrictlySortedBy
are_none by_id none = record { order = tt; each = λ id. sym (ap option_to_list (none id)) }

-- and no others are
no_cards : (by_id : ById) (cards : List Shown) → AreCardsOf by_id cards → ((id : Bytes) → by_id id ≡ None) → cards ≡ []
no_cards by_id cards are none = one_list by_id cards [] are (are_none by_id none)

module _ (me : Bytes) (key : ChatKey) (unsettled : Bool) where
  -- a state that was begun follows no card
  pub begun : (by_id : ById) (s : ChatState) → s.key ≡ key → StandsFor me [] s → ((id : Bytes) → by_id id ≡ None) → FollowsChat me key unsettled by_id s
  begun by_id s is_of stands none =
      record { is_of = is_of; cards = []; are = are_none by_id none; follows = record { marked = marked_from me [] s stands; known = λ _. stands } }

  has_them : (by_id : ById) (cards : List Shown) (s : ChatState) → s.key ≡ key → AreCardsOf by_id cards → Follows me unsettled cards s → (unsettled ≡ false → has_some cards ≡ true)
      → Has me key unsettled by_id (Some s)
  has_them by_id cards s is_of are follows some =
      (record { is_of = is_of; cards = cards; are = are; follows = follows }, λ settled. ap has_some follows.marked.spots ∙ same_some (λ c. c.spot) cards ∙ some settled)

module _ (me : Bytes) (key : ChatKey) (u v : Bool) (by_id : ById) (small : IsSmall by_id) (s t : ChatState) (old : FollowsChat me key u by_id s) (same : t.key ≡ s.key) (spot : Spot) (card : Card) where
  pub put_has : (mark : Option Mark) → by_id spot.id ≡ None
      → ((before after : List Shown) → AreFew (before ++ after) → AreInOrder (before ++ shown spot card mark ∷ after) → Follows me u (before ++ after) s → Follows me v (before ++ shown spot card mark ∷ after) t)
      → Has me key v (with_one spot.id (Some (shown spot card mark)) by_id) (Some t)
  put_has mark none step =
      let c = shown spot card mark in
      let new = comes by_id c old.cards none old.are in
      let few = subst AreFew new.is (few_all by_id old.cards small old.are) in
      has_them me key v (with_one spot.id (Some c) by_id) (new.before ++ c ∷ new.after) t (same ∙ old.is_of) new.are
      (step new.before new.after few new.order (subst (λ cs. Follows me u cs s) new.is old.follows))
      (λ _. some_there new.before c new.after)

  pub take_has : (mark : Option Mark) → by_id spot.id ≡ Some (shown spot card mark)
      → ((before after : List Shown) → AreFew (before ++ after) → AreInOrder (before ++ shown spot card mark ∷ after) → Follows me u (before ++ shown spot card mark ∷ after) s
      → Follows me v (before ++ after) t × (v ≡ false → has_some (before ++ after) ≡ true))
      → Has me key v (with_one spot.id None by_id) (Some t)
  take_has mark there step =
      let c = shown spot card mark in
      let was = is_there by_id c old.cards there old.are in
      let few = few_others by_id was.before c was.after small (subst (AreCardsOf by_id) was.is old.are) in
      let now = step was.before was.after few was.order (subst (λ cs. Follows me u cs s) was.is old.follows) in
      has_them me key v (with_one spot.id None by_id) (was.before ++ was.after) t (same ∙ old.is_of) was.rest now.0 now.1

  pub mark_has : (mark other : Option Mark) → by_id spot.id ≡ Some (shown spot card mark)
      → ((before after : List Shown) → AreFew (before ++ after) → AreInOrder (before ++ shown spot card mark ∷ after) → Follows me u (before ++ shown spot card mark ∷ after) s
      → Follows me v (before ++ shown spot card other ∷ after) t)
      → Has me key v (with_one spot.id (Some (shown spot card other)) by_id) (Some t)
  mark_has mark other there step =
      let c = shown spot card mark in
      let was = is_there by_id c old.cards there old.are in
      let few = few_others by_id was.before c was.after small (subst (AreCardsOf by_id) was.is old.are) in
      has_them me key v (with_one spot.id (Some (shown spot card other)) by_id) (was.before ++ shown spot card other ∷ was.after) t (same ∙ old.is_of)
      (marked_anew by_id was.before spot card mark other was.after was.order was.rest)
      (step was.before was.after few was.order (subst (λ cs. Follows me u cs s) was.is old.follows))
      (λ _. some_there was.before (shown spot card other) was.after)

-- ---- a roster that is folded anew

module _ (me : Bytes) (key : ChatKey) (u : Bool) (by_id : ById) (cards : List Shown) (are : AreCardsOf by_id cards) (s : ChatState) (old : FollowsChat me key u by_id s) where
  -- it stands for the cards with this roster
  pub settled_has : (v : Bool) (roster : Roster) (setters : Setters) → RestsOn me key (placed_at cards) roster setters → has_some s.spots ≡ true
      → Has me key v by_id (Some (record s { roster = roster; setters = setters }))
  settled_has v roster setters rests some =
      let t : ChatState = record s { roster = roster; setters = setters } in
      let same = one_list by_id old.cards cards old.are are in
      let was = subst (λ cs. IsMarkedFor cs s) same old.follows.marked in
      let marked : IsMarkedFor cards t = record { spots = was.spots; marks = was.marks; last = was.last; fresh = was.fresh } in
      let stands = stands_from me cards t marked (subst (λ k. RestsOn me k (placed_at cards) roster setters) (sym old.is_of) rests) in
      (record { is_of = old.is_of; cards = cards; are = are; follows = record { marked = marked; known = λ _. stands } }, λ _. some)

  -- a state without spots is one of no cards
  pub none_left : length s.spots ≡ 0 → (id : Bytes) → by_id id ≡ None
  none_left none =
      let empty = no_length old.cards (sym (ap length old.follows.marked.spots ∙ length-map old.cards (λ c. c.spot)) ∙ none) in
      none_of by_id old.cards old.are empty

-- ---- what a settled chat has

pub told : (me : Bytes) (key : ChatKey) (by_id : ById) (cards : List Shown) (state : Option ChatState)
    → AreCardsOf by_id cards → Has me key false by_id state → state ≡ (if has_some cards then Some (state_of me key cards) else None)
told me key by_id cards None are none = ap (λ cs. if has_some cs then Some (state_of me key cs) else None) (sym (no_cards by_id cards are none))
told me key by_id cards (Some s) are has =
    let same = one_list by_id has.0.cards cards has.0.are are in
    let stands = subst (λ cs. StandsFor me cs s) same (has.0.follows.known refl) in
    let some = sym (same_some (λ c. c.spot) cards) ∙ sym (ap (λ t. has_some t.spots) stands) ∙ has.1 refl in
    ap Some (stands ∙ ap (λ k. state_of me k cards) has.0.is_of) ∙ ap (λ b. if b then Some (state_of me key cards) else None) (sym some)

pub stand : (me : Bytes) (key : ChatKey) (by_id : ById) (cards : List Shown)
    → AreCardsOf by_id cards → Has me key false by_id (if has_some cards then Some (state_of me key cards) else None)
stand me key by_id [] are = none_of by_id [] are refl
stand me key by_id (c ∷ more) are =
    let cards = c ∷ more in
    let stands : StandsFor me cards (state_of me key cards) = refl in
    subst (λ b. Has me key false by_id (if b then Some (state_of me key cards) else None)) (sym (some_there [] c more))
    (has_them me key false by_id cards (state_of me key cards) refl are (record { marked = marked_from me cards (state_of me key cards) stands; known = λ _. stands }) (λ _. some_there [] c more))

-- more may be taken as unsettled
pub weaker : (me : Bytes) (key : ChatKey) (u v : Bool) (by_id : ById) (state : Option ChatState) → (u ≡ true → v ≡ true) → Has me key u by_id state → Has me key v by_id state
weaker me key u v by_id None more has = has
weaker me key u v by_id (Some s) more has =
    let settled : v ≡ false → u ≡ false = λ e. by u v more e in (
      record {
        is_of = has.0.is_of;
        cards = has.0.cards;
        are = has.0.are;
        follows = record { marked = has.0.follows.marked; known = λ e. has.0.follows.known (settled e) };
      },
      λ e. has.1 (settled e),
    )
  where
    by : (a b : Bool) → (a ≡ true → b ≡ true) → b ≡ false → a ≡ false
    by false b f e = refl
    by true b f e = absurd (false≢true (sym e ∙ f refl))

-- a chat that a state was not changed for is unsettled: it was so before, or its state can't tell
pub unsettled_now : (before tells after : Bool) → false ≡ (not before && tells) → after ≡ true → after ≡ (before || not tells)
unsettled_now true tells after left is = is
unsettled_now false true after left is = cc
unsettled_now false false after left is = is
