-- Before any card is settled: the cards that are not suspect are as after the change.
use Rattle.std.proofs.Common.{◌≡◌, refl, sym, ap, ◌∙◌, subst, ℕ, Bool, true, false, ◌||◌, Option, Some, None, List}
use Rattle.std.specs.Prelude.{◌==◌, find, if◌then◌else◌, is_some, IfSome}
use Rattle.std.specs.FinMap as map_of
use Rattle.std.specs.Option.{option_and_then, option_map, option_map_or}
use Rattle.std.proofs.lemmas.Bool.{both_ways, eqb-true, or_parts}
use Rattle.lists.proofs.Inserts.{found_passes}
use Rattle.card_type.specs.declared.key.ChatKey.{ChatKey}
use Rattle.card_type.specs.Effects.{is_among}
use Rattle.card_type.specs.Keys.{key_cmp}
use Rattle.card_type.specs.Kinds.{has_some}
use Rattle.chat_view.specs.declared.state.ChatState.{ChatState}
use Rattle.chat_view.specs.Standing.{state_of}
use Rattle.mailbox_model.specs.declared.turn.Turn.{Turn}
use Rattle.mailbox_model.specs.Lists.{Bytes}
use Rattle.mailbox_model.specs.Mailbox.{Mailbox, IsMailbox}
use Rattle.mailbox_model.specs.Present.{Mail, contents, has_id, present, spot}
use Rattle.mailbox_model.specs.Chats.{chat, is_chat}
use Rattle.mailbox_model.specs.Rows.{expiry, row}
use Rattle.mailbox_model.specs.States.{Shown, chat_cards, shown_as}
use Rattle.mailbox_model.specs.Turns.{is_mail, IsTurn}
use Rattle.touched_chats.specs.Suspects.{CardStays, falls_due, has_moved, is_due, is_suspect_card, is_told, uid_falls_due}
use Rattle.touched_chats.proofs.CardStaying.{card_stays}
use Rattle.chat_states.specs.Families.{AreCardsOf}
use Rattle.chat_states.specs.States.{AreStatesOf, Has}
use Rattle.chat_states.proofs.Followed.{stand}
use Rattle.indexes.specs.Kept.{AreDeadlines, AreStates, deadline_among, deadline_at, deadline_of}
use Rattle.repair.specs.Cards.{IsFree, card_in, content_at, family_between, has_uid_at}
use Rattle.repair.proofs.ChatCards.{cards_of_chat}
use Rattle.repair.proofs.Contents.{found_content, IsContent}

-- cards that have other families of the same cards
cards_same : (f g : Bytes → Option Shown) → ((id : Bytes) → f id ≡ g id) → (cards : List Shown) → AreCardsOf f cards → AreCardsOf g cards
cards_same f g same cards are = subst (λ h. AreCardsOf h cards) (λ i id. same id i) are

module _ (m n : Mailbox) (k : IsMailbox m) (l : IsMailbox n) (turn : Turn) (me : m.me ≡ n.me) (is : IsTurn m n turn)
    (ids : List Bytes) (are : (id : Bytes) → is_among ids id ≡ is_suspect_card m n turn id) where
  stays : (id : Bytes) → is_among ids id ≡ false → CardStays m n id
  stays id h = card_stays m n turn id me is (sym (are id) ∙ h)

  -- ---- the states

  shown_same : (o : Option Mail) → IfSome o (λ t. row m t ≡ row n t) → option_map (shown_as m) o ≡ option_map (shown_as n) o
  shown_same None h = refl
  shown_same (Some t) h = λ i. Some (record { spot = spot t.placed; card = t.placed.card; mark = option_map (λ r. r.mark) (h i) })

  card_same : (key : ChatKey) (id : Bytes) → is_among ids id ≡ false → card_in m key id ≡ card_in n key id
  card_same key id h =
      let same = stays id h in
      (λ i. if is_chat key (same.chat i) then shown_same (content_at m id) same.row i else None)
      ∙ ap (λ o. if is_chat key (chat n id) then option_map (shown_as n) o else None) same.mail

  family_start : (key : ChatKey) (id : Bytes) → card_in m key id ≡ family_between m n ids key id
  family_start key id =
      elim (is_among ids id) as (λ b. is_among ids id ≡ b → card_in m key id ≡ (if b then card_in m key id else card_in n key id)) [
        | true ↦ λ e. refl
        | false ↦ λ e. card_same key id e
      ] refl

  pub states_start : (states : map_of.FinMap key_cmp ChatState) → AreStates m (present m) states → AreStatesOf n.me (λ _. false) (family_between m n ids) states
  states_start states kept key =
      subst (Has n.me key false (family_between m n ids key)) (sym (kept key ∙ (λ i. if has_some (chat_cards m key) then Some (state_of (me i) key (chat_cards m key)) else None)))
      (stand n.me key (family_between m n ids key) (chat_cards m key)
      (cards_same (card_in m key) (family_between m n ids key) (family_start key) (chat_cards m key) (cards_of_chat m k key)))

  -- ---- the deadlines

  uid_of : (x : Mailbox) (uid : ℕ) (t : Mail) → IsContent x t → (t.placed.uid == uid) ≡ true → has_uid_at x t.placed.card.id uid ≡ true
  uid_of x uid t c own = ap (λ o. option_map_or (λ u. u.placed.uid == uid) o false) c.by_id ∙ own

  -- a card with a free uid is not suspect
  free_id : (uid : ℕ) → IsFree m n ids uid → (id : Bytes) → (has_uid_at m id uid || has_uid_at n id uid) ≡ true → is_among ids id ≡ false
  free_id uid free id h =
      elim (is_among ids id) as (λ b. is_among ids id ≡ b → b ≡ false) [
        | true ↦ λ e. let none = free id e in absurd (both_ways (has_uid_at m id uid || has_uid_at n id uid) (λ i. none.0 i || none.1 i) h)
        | false ↦ λ e. refl
      ] refl

  deadline_same : (t : Mail) → row m t ≡ row n t → deadline_of m t ≡ deadline_of n t
  deadline_same t h = λ i. if is_some (h i) then expiry (me i) t else None

  pub deadlines_start : (before after : List (ℕ × ℕ)) → AreDeadlines m (present m) before
      → ((uid : ℕ) → deadline_at after uid ≡ (if uid_falls_due m n.now uid then None else deadline_at before uid))
      → (uid : ℕ) → IsFree m n ids uid → deadline_at after uid ≡ deadline_among n (present n) uid
  deadlines_start before after kept drained uid free = drained uid ∙ ap (λ o. if uid_falls_due m n.now uid then None else o) (kept uid) ∙ by (find (is_mail uid) (contents m)) refl (find (is_mail uid) (contents n)) refl
    where
      due : Option Mail → Bool
      due o = option_map_or (is_due m n.now) o false

      by : (o : Option Mail) → find (is_mail uid) (contents m) ≡ o → (p : Option Mail) → find (is_mail uid) (contents n) ≡ p
          → (if option_map_or (is_due m n.now) (find (is_mail uid) (contents m)) false then None else option_and_then (deadline_of m) (find (is_mail uid) (contents m))) ≡ option_and_then (deadline_of n) (find (is_mail uid) (contents n))
      by None e None f = (λ i. if option_map_or (is_due m n.now) (e i) false then None else option_and_then (deadline_of m) (e i)) ∙ sym (ap (option_and_then (deadline_of n)) f)
      by None e (Some u) f =
          let c = found_content n l (is_mail uid) u f in
          let own = found_passes (is_mail uid) (contents n) u f in
          let same = stays u.placed.card.id (free_id uid free u.placed.card.id (ap (λ b. has_uid_at m u.placed.card.id uid || b) (uid_of n uid u c own) ∙ or_true (has_uid_at m u.placed.card.id uid))) in
          let d = found_content m k (has_id u.placed.card.id) u (same.mail ∙ c.by_id) in
          absurd (none_some u (sym e ∙ ap (λ i. find (is_mail i) (contents m)) (sym (eqb-true u.placed.uid uid own)) ∙ d.by_uid))
        where
          or_true : (b : Bool) → (b || true) ≡ true
          or_true true = refl
          or_true false = refl

          none_some : (u : Mail) → None ≡ Some u → ⊥
          none_some u h = cc
      by (Some t) e p f =
          let c = found_content m k (is_mail uid) t e in
          let own = found_passes (is_mail uid) (contents m) t e in
          let unsuspect = free_id uid free t.placed.card.id (ap (λ b. b || has_uid_at n t.placed.card.id uid) (uid_of m uid t c own)) in
          let same = stays t.placed.card.id unsuspect in
          let there : content_at n t.placed.card.id ≡ Some t = sym same.mail ∙ c.by_id in
          let d = found_content n l (has_id t.placed.card.id) t there in
          let after_is : find (is_mail uid) (contents n) ≡ Some t = ap (λ i. find (is_mail i) (contents n)) (sym (eqb-true t.placed.uid uid own)) ∙ d.by_uid in
          let parts = or_parts (is_told m n turn t.placed.card.id) (falls_due m n.now t.placed.card.id) (or_parts (has_moved m n t.placed.card.id) (is_told m n turn t.placed.card.id || falls_due m n.now t.placed.card.id) (sym (are t.placed.card.id) ∙ unsuspect)).1 in
          let not_due : is_due m n.now t ≡ false = sym (ap (λ o. option_map_or (is_due m n.now) o false) c.by_id) ∙ parts.1 in
          let rows : row m t ≡ row n t = subst (λ o. IfSome o (λ t. row m t ≡ row n t)) c.by_id same.row in
          (λ i. if option_map_or (is_due m n.now) (e i) false then None else option_and_then (deadline_of m) (e i))
          ∙ ap (λ b. if b then None else deadline_of m t) not_due
          ∙ deadline_same t rows
          ∙ sym (ap (option_and_then (deadline_of n)) after_is)
