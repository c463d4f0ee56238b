-- The state of a chat with one more card.
use Rattle.std.proofs.Common.{◌≡◌, refl, sym, ap, ◌∙◌, suc, ◌+◌, ◌<◌, Bool, true, false, cond, Some, is_some, List, [], ◌∷◌, ◌++◌, map, arith, append-nil}
use Rattle.std.specs.Prelude.{if◌then◌else◌, filter}
use Rattle.std.specs.Option.{option_map, option_map_or}
use Rattle.std.proofs.lemmas.List.{map-append}
use Rattle.std.proofs.lemmas.List.Elements.{filter-append}
use Rattle.std.proofs.lemmas.List.Sums.{count_by-le-length, sum_by-append}
use Rattle.card_type.specs.declared.key.ChatKey.{ChatKey}
use Rattle.mailbox_model.specs.Lists.{Bytes, last_of}
use Rattle.mailbox_model.specs.Rosters.{roster_of}
use Rattle.mailbox_model.specs.Rows.{is_new}
use Rattle.mailbox_model.specs.States.{Shown, last_spot, fresh_among}
use Rattle.chat_view.specs.declared.state.ChatState.{ChatState}
use Rattle.group_roster.specs.Setters.{RestsOn, at, setters_of}
use Rattle.chat_view.specs.Changes.{AreFew}
use Rattle.chat_view.specs.Standing.{StandsFor, placed_at, state_of}
use Rattle.chat_view.proofs.Told.{cards_same}

pub last_of_more : {X : Type 0} (xs : List X) (x : X) → last_of (xs ++ x ∷ []) ≡ Some x
last_of_more [] x = refl
last_of_more (y ∷ ys) x = rw (last_of_more ys x) refl

abbrev is_shown : Shown → Bool
is_shown c = is_some c.mark

abbrev is_fresh : Shown → Bool
is_fresh c = option_map_or is_new c.mark false

last_more : (cards : List Shown) (c : Shown) → last_spot (cards ++ c ∷ []) ≡ (if is_some c.mark then Some c.spot else last_spot cards)
last_more cards c = ap (λ kept. option_map (λ d. d.spot) (last_of kept)) (filter-append is_shown cards (c ∷ [])) ∙ by (is_some c.mark)
  where
    by : (b : Bool) → option_map (λ d. d.spot) (last_of (filter is_shown cards ++ cond b (c ∷ []) [])) ≡ (if b then Some c.spot else last_spot cards)
    by true = ap (λ last. option_map (λ d. d.spot) last) (last_of_more (filter is_shown cards) c)
    by false = rw (append-nil (filter is_shown cards)) refl

fresh_more : (cards : List Shown) (c : Shown) → fresh_among (cards ++ c ∷ []) ≡ (if is_fresh c then suc (fresh_among cards) else fresh_among cards)
fresh_more cards c = sum_by-append (λ d. cond (is_fresh d) 1 0) cards (c ∷ []) ∙ by (is_fresh c)
  where
    by : (b : Bool) → fresh_among cards + (0 + cond b 1 0) ≡ (if b then suc (fresh_among cards) else fresh_among cards)
    by true = omega arith
    by false = omega arith

-- no more are fresh than there are
pub few_fresh : (me : Bytes) (cards : List Shown) (s : ChatState) → StandsFor me cards s → AreFew cards → s.fresh < 4294967295
few_fresh me cards s is few = omega (arith, few, ap (λ t. t.fresh) is, count_by-le-length is_fresh cards)

module _ (me : Bytes) (key : ChatKey) (cards : List Shown) (c : Shown) where
  pub state_more : (s : ChatState) → s.key ≡ key → s.spots ≡ map (λ d. d.spot) cards ++ c.spot ∷ [] → s.marks ≡ map (λ d. d.mark) cards ++ c.mark ∷ []
      → RestsOn me key (placed_at cards ++ at c.spot c.card ∷ []) s.roster s.setters
      → s.last ≡ (if is_some c.mark then Some c.spot else last_spot cards)
      → s.fresh ≡ (if is_fresh c then suc (fresh_among cards) else fresh_among cards)
      → s ≡ state_of me key (cards ++ c ∷ [])
  state_more s key_is spots_are marks_are rests last_is fresh_is =
      let all = cards ++ c ∷ [] in
      let placed : placed_at cards ++ at c.spot c.card ∷ [] ≡ placed_at all = sym (map-append (λ d. at d.spot d.card) cards (c ∷ [])) in
      let spots_all : s.spots ≡ map (λ d. d.spot) all = spots_are ∙ sym (map-append (λ d. d.spot) cards (c ∷ [])) in
      let marks_all : s.marks ≡ map (λ d. d.mark) all = marks_are ∙ sym (map-append (λ d. d.mark) cards (c ∷ [])) in
      let roster_all : s.roster ≡ roster_of me key (map (λ d. d.card) all) = rests.roster ∙ ap (λ ps. roster_of me key (map (λ a. a.card) ps)) placed ∙ ap (roster_of me key) (cards_same all) in
      let setters_all : s.setters ≡ setters_of me key (placed_at all) = rests.setters ∙ ap (setters_of me key) placed in
      let last_all : s.last ≡ last_spot all = last_is ∙ sym (last_more cards c) in
      let fresh_all : s.fresh ≡ fresh_among all = fresh_is ∙ sym (fresh_more cards c) in
      λ i. record { key = key_is i; spots = spots_all i; marks = marks_all i; roster = roster_all i; setters = setters_all i; last = last_all i; fresh = fresh_all i }
