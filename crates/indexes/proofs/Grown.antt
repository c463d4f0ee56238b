-- What is kept of some mails, with one more.
use Rattle.std.proofs.Common.{◌≡◌, refl, sym, ap, ◌∙◌, subst, ℕ, Bool, true, false, ◌&&◌, cond, Option, Some, None, Result, Ok, Err, List, [], ◌∷◌, ◌++◌, length, map, arith}
use Rattle.std.specs.Prelude.{◌==◌, find, filter, is_some, if◌then◌else◌, OnOk}
use Rattle.std.specs.FinMap as map_of
use Rattle.std.specs.Option.{option_and_then, option_map, option_or}
use Rattle.std.proofs.lemmas.Bool.{eqb-true, lt-ltb}
use Rattle.std.proofs.lemmas.List.{append-nil, length-append, map-append}
use Rattle.std.proofs.lemmas.List.Elements.{filter-append}
use Rattle.std.proofs.lemmas.List.Folds.{find-append}
use Rattle.card_type.specs.declared.card.Card.{Card}
use Rattle.card_type.specs.declared.key.ChatKey.{ChatKey}
use Rattle.card_type.specs.declared.spot.Spot.{Spot}
use Rattle.card_type.specs.Keys.{key_cmp, key_eq}
use Rattle.card_type.specs.Kinds.{has_some, is_content, kind_of}
use Rattle.chat_view.specs.declared.state.ChatState.{ChatState}
use Rattle.chat_view.specs.Standing.{shown, state_of}
use Rattle.mailbox_model.specs.declared.row.Mark.{Mark}
use Rattle.mailbox_model.specs.Mailbox.{Mailbox}
use Rattle.mailbox_model.specs.Present.{Mail, spot}
use Rattle.mailbox_model.specs.Chats.{chat, is_chat}
use Rattle.mailbox_model.specs.Rows.{row}
use Rattle.mailbox_model.specs.States.{Shown, shown_as}
use Rattle.mailbox_model.specs.Turns.{is_mail}
use Rattle.mailbox_model.proofs.ChatLaws.{or_none}
use Rattle.mailbox_model.proofs.ListLaws.{key_same, key_self, key_turn}
use Rattle.indexes.specs.Kept.{AreDeadlines, AreStates, contents_of, deadline_among, deadline_at, deadline_of, mails_in, state_among}

pub contents_more : (ts : List Mail) (t : Mail) → is_content (kind_of t.placed.card) ≡ true → contents_of (ts ++ t ∷ []) ≡ contents_of ts ++ t ∷ []
contents_more ts t is =
    filter-append (λ u. is_content (kind_of u.placed.card)) ts (t ∷ []) ∙ ap (λ b. contents_of ts ++ cond b (t ∷ []) []) is

pub contents_same : (ts : List Mail) (t : Mail) → is_content (kind_of t.placed.card) ≡ false → contents_of (ts ++ t ∷ []) ≡ contents_of ts
contents_same ts t is =
    filter-append (λ u. is_content (kind_of u.placed.card)) ts (t ∷ []) ∙ ap (λ b. contents_of ts ++ cond b (t ∷ []) []) is ∙ append-nil (contents_of ts)

none_kept : {X : Type 0} (p q : X → Bool) (xs : List X) → is_some (find p xs) ≡ false → find p (filter q xs) ≡ None
none_kept p q [] h = refl
none_kept p q (x ∷ xs) h =
    elim (p x) as (λ b. p x ≡ b → is_some (cond b (Some x) (find p xs)) ≡ false → find p (cond (q x) (x ∷ filter q xs) (filter q xs)) ≡ None) [
      | true ↦ λ e k. cc
      | false ↦ λ e k. elim (q x) as (λ b. find p (cond b (x ∷ filter q xs) (filter q xs)) ≡ None) [ true ↦ rw e (none_kept p q xs k) | false ↦ none_kept p q xs k ]
    ] refl h

module _ (m : Mailbox) (ts : List Mail) (t : Mail) where
  -- ---- a mail of another kind

  pub states_same : is_content (kind_of t.placed.card) ≡ false → (states : map_of.FinMap key_cmp ChatState) → AreStates m ts states
      → AreStates m (ts ++ t ∷ []) states
  states_same is states stands key =
      stands key ∙ sym (ap (λ us. state_from key (filter (λ u. is_chat key (chat m u.placed.card.id)) us)) (contents_same ts t is))
    where
      state_from : ChatKey → List Mail → Option ChatState
      state_from key us = let cards = map (shown_as m) us in if has_some cards then Some (state_of m.me key cards) else None

  pub deadlines_same : is_content (kind_of t.placed.card) ≡ false → (deadlines : List (ℕ × ℕ)) → AreDeadlines m ts deadlines
      → AreDeadlines m (ts ++ t ∷ []) deadlines
  deadlines_same is deadlines stands uid =
      stands uid ∙ sym (ap (λ us. option_and_then (deadline_of m) (find (λ u. u.placed.uid == uid) us)) (contents_same ts t is))

  -- ---- a content

  module _ (is : is_content (kind_of t.placed.card) ≡ true) where
    module _ (key : ChatKey) (in_chat : chat m t.placed.card.id ≡ Some key) where
      abbrev pub before : List Shown
      before = map (shown_as m) (mails_in m key ts)

      abbrev in_key : ChatKey → Mail → Bool
      in_key q u = is_chat q (chat m u.placed.card.id)

      mails_more : (q : ChatKey) → mails_in m q (ts ++ t ∷ []) ≡ mails_in m q ts ++ cond (key_eq q key) (t ∷ []) []
      mails_more q =
          ap (filter (in_key q)) (contents_more ts t is)
          ∙ filter-append (in_key q) (contents_of ts) (t ∷ [])
          ∙ ap (λ o. mails_in m q ts ++ cond (is_chat q o) (t ∷ []) []) in_chat

      some_more : (cards : List Shown) (c : Shown) → has_some (cards ++ c ∷ []) ≡ true
      some_more cards c = lt-ltb 0 (length (cards ++ c ∷ [])) (omega (arith, length-append cards (c ∷ [])))

      -- the state of its chat
      pub state_more : state_among m (ts ++ t ∷ []) key ≡ Some (state_of m.me key (before ++ shown_as m t ∷ []))
      state_more =
          ap from (ap (map (shown_as m)) (mails_more key ∙ ap (λ b. mails_in m key ts ++ cond b (t ∷ []) []) (key_self key)) ∙ map-append (shown_as m) (mails_in m key ts) (t ∷ []))
          ∙ ap (λ b. if b then Some (state_of m.me key (before ++ shown_as m t ∷ [])) else None) (some_more before (shown_as m t))
        where
          from : List Shown → Option ChatState
          from cards = if has_some cards then Some (state_of m.me key cards) else None

      -- and of another one
      pub state_other : (q : ChatKey) → key_eq key q ≡ false → state_among m (ts ++ t ∷ []) q ≡ state_among m ts q
      state_other q h =
          ap from (mails_more q ∙ ap (λ b. mails_in m q ts ++ cond b (t ∷ []) []) (key_turn q key ∙ h) ∙ append-nil (mails_in m q ts))
        where
          from : List Mail → Option ChatState
          from us = let cards = map (shown_as m) us in if has_some cards then Some (state_of m.me q cards) else None

      -- what is kept of its chat before
      pub before_is : (states : map_of.FinMap key_cmp ChatState) → AreStates m ts states → (P : Option ChatState → List Shown → Type 0)
          → P None [] → ((cards : List Shown) → P (Some (state_of m.me key cards)) cards) → P (map_of.get states key) before
      before_is states stands P none some =
          subst (λ o. P o before) (sym (stands key)) (by before)
        where
          by : (cards : List Shown) → P (if has_some cards then Some (state_of m.me key cards) else None) cards
          by [] = none
          by (c ∷ cards) = subst (λ b. P (if b then Some (state_of m.me key (c ∷ cards)) else None) (c ∷ cards)) (sym (lt-ltb 0 (length (c ∷ cards)) (omega arith))) (some (c ∷ cards))

      pub states_more : (old new : map_of.FinMap key_cmp ChatState) → AreStates m ts old
          → map_of.get new key ≡ Some (state_of m.me key (before ++ shown_as m t ∷ []))
          → ((other : ChatKey) → key_eq key other ≡ false → map_of.get new other ≡ map_of.get old other)
          → AreStates m (ts ++ t ∷ []) new
      states_more old new stands at others q =
          elim (key_eq key q) as (λ b. key_eq key q ≡ b → map_of.get new q ≡ state_among m (ts ++ t ∷ []) q) [
            | true ↦ λ e. subst (λ k. map_of.get new k ≡ state_among m (ts ++ t ∷ []) k) (key_same key q e) (at ∙ sym state_more)
            | false ↦ λ e. others q e ∙ stands q ∙ sym (state_other q e)
          ] refl

    -- the deadline of its uid
    pub deadlines_more : (old new : List (ℕ × ℕ)) → is_some (find (is_mail t.placed.uid) ts) ≡ false → AreDeadlines m ts old
        → ((other : ℕ) → deadline_at new other ≡ (if t.placed.uid == other && is_some (deadline_of m t) then deadline_of m t else deadline_at old other))
        → AreDeadlines m (ts ++ t ∷ []) new
    deadlines_more old new none stands more uid =
        elim (t.placed.uid == uid) as (λ b. t.placed.uid == uid ≡ b → deadline_at new uid ≡ deadline_among m (ts ++ t ∷ []) uid) [
          | true ↦ λ e. here (eqb-true t.placed.uid uid e) e
          | false ↦ λ e.
              more uid
              ∙ ap (λ b. if b && is_some (deadline_of m t) then deadline_of m t else deadline_at old uid) e
              ∙ stands uid
              ∙ sym (ap (option_and_then (deadline_of m)) (found_more uid ∙ ap (λ b. option_or (find (is_mail uid) (contents_of ts)) (cond b (Some t) None)) e ∙ or_none (find (is_mail uid) (contents_of ts))))
        ] refl
      where
        found_more : (uid : ℕ) → find (is_mail uid) (contents_of (ts ++ t ∷ [])) ≡ option_or (find (is_mail uid) (contents_of ts)) (cond (t.placed.uid == uid) (Some t) None)
        found_more uid = ap (find (is_mail uid)) (contents_more ts t is) ∙ find-append (is_mail uid) (contents_of ts) (t ∷ [])

        -- where it has one its deadline is new, else there is none
        set : (o : Option ℕ) → (if is_some o then o else None) ≡ o
        set None = refl
        set (Some n) = refl

        here : t.placed.uid ≡ uid → t.placed.uid == uid ≡ true → deadline_at new uid ≡ deadline_among m (ts ++ t ∷ []) uid
        here own e =
            let no_mail : find (is_mail uid) (contents_of ts) ≡ None = none_kept (is_mail uid) (λ u. is_content (kind_of u.placed.card)) ts (subst (λ n. is_some (find (is_mail n) ts) ≡ false) own none) in
            more uid
            ∙ ap (λ b. if b && is_some (deadline_of m t) then deadline_of m t else deadline_at old uid) e
            ∙ ap (λ o. if is_some (deadline_of m t) then deadline_of m t else o) (stands uid ∙ ap (option_and_then (deadline_of m)) no_mail)
            ∙ set (deadline_of m t)
            ∙ sym (ap (option_and_then (deadline_of m)) (found_more uid ∙ (λ i. option_or (no_mail i) (cond (e i) (Some t) None))))

-- ---- a card with the mark of its row

pub shown_is : (m : Mailbox) (t : Mail) (s : Spot) (card : Card) (mark : Option Mark) → s ≡ spot t.placed → card ≡ t.placed.card
    → mark ≡ option_map (λ r. r.mark) (row m t) → shown s card mark ≡ shown_as m t
shown_is m t s card mark at own is = λ i. record { spot = at i; card = own i; mark = is i }

-- ---- results

pub on_ok_of : {T E P : Type 0} (r : Result T E) → P → OnOk r P
on_ok_of (Ok x) p = p
on_ok_of (Err e) p = tt

pub on_ok_all : {T E A B C P : Type 0} (r : Result T E) → OnOk r A → OnOk r B → OnOk r C → (A → B → C → P) → OnOk r P
on_ok_all (Ok x) a b c f = f a b c
on_ok_all (Err e) a b c f = tt
