-- The cards of all chats, where those with one id are others.
use Rattle.std.proofs.Common.{◌≡◌, refl, sym, ap, ◌∙◌, subst, ℕ, ◌+◌, Bool, true, false, ◌&&◌, Option, Some, None}
use Rattle.std.specs.Prelude.{◌==◌, if◌then◌else◌, option_map}
use Rattle.std.specs.FinMap as map_of
use Rattle.std.specs.Option.{option_map_or}
use Rattle.std.specs.Str.{bytes_eq}
use Rattle.std.specs.Cmp.Lexicographic.{bytes_decides}
use Rattle.std.proofs.lemmas.Option.{some_pair_parts}
use Rattle.card_type.specs.declared.card.Card.{Card}
use Rattle.card_type.specs.declared.key.ChatKey.{ChatKey}
use Rattle.card_type.specs.declared.spot.Spot.{Spot}
use Rattle.card_type.specs.Keys.{key_cmp, key_eq}
use Rattle.mailbox_model.specs.declared.row.Mark.{Mark}
use Rattle.mailbox_model.specs.Chats.{chat, is_chat}
use Rattle.mailbox_model.specs.Lists.{Bytes}
use Rattle.mailbox_model.specs.Mailbox.{Mailbox}
use Rattle.mailbox_model.specs.Present.{Mail, spot}
use Rattle.mailbox_model.specs.States.{Shown, shown_as}
use Rattle.mailbox_model.proofs.ListLaws.{key_same, key_self, key_turn}
use Rattle.chat_view.specs.declared.state.ChatState.{ChatState}
use Rattle.chat_view.specs.Standing.{shown}
use Rattle.chat_states.specs.Families.{Family, with_card}
use Rattle.chat_states.specs.States.{AreStatesOf}
use Rattle.touched_chats.specs.Costs.{row_reads}
use Rattle.indexes.specs.Costs.{times_named}
use Rattle.repair.specs.Cards.{card_in, content_at, has_uid_at}
use Rattle.repair.specs.Places.{unmarked, with_id}
use Rattle.repair.proofs.Contents.{IsAt, own_id}

-- ---- one chat alone has another card with the id, or none has

module _ (id : Bytes) (cards : ChatKey → Option Shown) (family : Family) where
  one_card : (key : ChatKey) (at : Bytes) (card : Option Shown) → at ≡ id → cards key ≡ card
      → ((k : ChatKey) → key_eq key k ≡ false → cards k ≡ family k id) → with_card key at card family ≡ with_id id cards family
  one_card key at card own here others =
      (λ i. with_card key (own i) card family) ∙ (λ i k j. each k j (bytes_eq id j) refl (key_eq key k) refl i)
    where
      each : (k : ChatKey) (j : Bytes) (b : Bool) → bytes_eq id j ≡ b → (c : Bool) → key_eq key k ≡ c
          → (if c && b then card else family k j) ≡ (if b then cards k else family k j)
      each k j true e true h = sym here ∙ ap cards (key_same key k h)
      each k j true e false h = ap (family k) (sym ((bytes_decides id j).0 e)) ∙ sym (others k h)
      each k j false e true h = refl
      each k j false e false h = refl

  no_card : ((k : ChatKey) → cards k ≡ family k id) → family ≡ with_id id cards family
  no_card same = λ i k j. each k j (bytes_eq id j) refl i
    where
      each : (k : ChatKey) (j : Bytes) (b : Bool) → bytes_eq id j ≡ b → family k j ≡ (if b then cards k else family k j)
      each k j true e = ap (family k) (sym ((bytes_decides id j).0 e)) ∙ sym (same k)
      each k j false e = refl

pub no_uid : (m : Mailbox) (id : Bytes) → content_at m id ≡ None → (deadline rest : Option ℕ) (uid : ℕ)
    → rest ≡ (if has_uid_at m id uid then deadline else rest)
no_uid m id none deadline rest uid = sym (ap (λ o. if option_map_or (λ t. t.placed.uid == uid) o false then deadline else rest) none)

-- ---- of the card that is in a chat

module _ (m : Mailbox) (id : Bytes) (key : ChatKey) (s : Spot) (is : IsAt m id key s) where
  id_is : s.id ≡ id
  id_is = sym (own_id m id is.mail is.there ∙ ap (λ q. q.id) is.spot)

  -- it has the id of its spot too
  pub there_too : (t : Mail) × (content_at m s.id ≡ Some t) × (spot t.placed ≡ s)
  there_too = (is.mail, ap (content_at m) id_is ∙ is.there, is.spot)

  here : card_in m key id ≡ Some (shown_as m is.mail)
  here =
      ap (λ o. if is_chat key o then option_map (shown_as m) (content_at m id) else None) is.chat
      ∙ ap (λ b. if b then option_map (shown_as m) (content_at m id) else None) (key_self key)
      ∙ ap (option_map (shown_as m)) is.there

  elsewhere : (k : ChatKey) → key_eq key k ≡ false → card_in m k id ≡ None
  elsewhere k apart =
      ap (λ o. if is_chat k o then option_map (shown_as m) (content_at m id) else None) is.chat
      ∙ ap (λ b. if b then option_map (shown_as m) (content_at m id) else None) (key_turn k key ∙ apart)

  pub uid_at : (uid : ℕ) → has_uid_at m id uid ≡ (s.uid == uid)
  uid_at uid = ap (λ o. option_map_or (λ t. t.placed.uid == uid) o false) is.there ∙ ap (λ (q : Spot). q.uid == uid) is.spot

  pub reads : option_map_or (row_reads m) (content_at m id) 0 ≡ 1 + times_named m s.id
  reads = ap (λ o. option_map_or (row_reads m) o 0) is.there ∙ ap (λ (q : Spot). 1 + times_named m q.id) is.spot

-- ---- a card that is marked anew

-- where two have a card at one spot, only the mark may differ
same_unmarked : (o : Option Shown) (c : Shown) → option_map unmarked o ≡ Some (unmarked c)
    → (mark : Option Mark) × (o ≡ Some (shown c.spot c.card mark))
same_unmarked None c h = cc
same_unmarked (Some d) c h =
    let parts = some_pair_parts d.spot c.spot d.card c.card h in
    (d.mark, λ i. Some (record { spot = parts.0 i; card = parts.1 i; mark = d.mark }))

none_unmarked : (o p : Option Shown) → option_map unmarked o ≡ option_map unmarked p → p ≡ None → o ≡ None
none_unmarked None p h k = refl
none_unmarked (Some c) None h k = cc
none_unmarked (Some c) (Some d) h k = cc

module _ (me : Bytes) (unsettled : ChatKey → Bool) (family : Family) (states : map_of.FinMap key_cmp ChatState)
    (n : Mailbox) (id : Bytes) (key : ChatKey) (s : Spot) (is : IsAt n id key s) (card : Card) (mark : Option Mark)
    (now : option_map (shown_as n) (content_at n s.id) ≡ Some (shown s card mark)) where
  own : s.id ≡ id
  own = id_is n id key s is

  now_is : card_in n key id ≡ Some (shown s card mark)
  now_is =
      here n id key s is
      ∙ sym (ap (option_map (shown_as n)) is.there)
      ∙ ap (λ i. option_map (shown_as n) (content_at n i)) (sym own)
      ∙ now

  abbrev with_it : Family
  with_it = with_card key s.id (Some (shown s card mark)) family

  abbrev its_states : Family → Type 0
  its_states f = AreStatesOf me unsettled f states

  -- where no other chat has it
  alone : ((k : ChatKey) → key_eq key k ≡ false → family k id ≡ None) → with_it ≡ with_id id (λ k. card_in n k id) family
  alone none =
      one_card id (λ k. card_in n k id) family key s.id (Some (shown s card mark)) own now_is
      (λ k apart. elsewhere n id key s is k apart ∙ sym (none k apart))

  pub marked : ((k : ChatKey) → option_map unmarked (family k id) ≡ option_map unmarked (card_in n k id))
      → ((before : Option Mark) → family key s.id ≡ Some (shown s card before) → its_states with_it)
      → its_states (with_id id (λ k. card_in n k id) family)
  marked same step =
      let before = same_unmarked (family key id) (shown s card mark) (same key ∙ ap (option_map unmarked) now_is) in
      subst its_states
      (alone (λ k apart. none_unmarked (family k id) (card_in n k id) (same k) (elsewhere n id key s is k apart)))
      (step before.0 (ap (family key) own ∙ before.1))

  -- and one that comes
  pub came : ((k : ChatKey) → family k id ≡ None) → (family key s.id ≡ None → its_states with_it)
      → its_states (with_id id (λ k. card_in n k id) family)
  came none step = subst its_states (alone (λ k apart. none k)) (step (ap (family key) own ∙ none key))

-- where there is none, none is marked anew or comes
module _ (n : Mailbox) (id : Bytes) (gone : chat n id ≡ None) (family : Family) where
  nowhere : (k : ChatKey) → card_in n k id ≡ None
  nowhere k = ap (λ o. if is_chat k o then option_map (shown_as n) (content_at n id) else None) gone

  pub none_marked : ((k : ChatKey) → option_map unmarked (family k id) ≡ option_map unmarked (card_in n k id))
      → family ≡ with_id id (λ k. card_in n k id) family
  none_marked same =
      no_card id (λ k. card_in n k id) family
      (λ k. nowhere k ∙ sym (none_unmarked (family k id) (card_in n k id) (same k) (nowhere k)))

  pub none_came : ((k : ChatKey) → family k id ≡ None) → family ≡ with_id id (λ k. card_in n k id) family
  none_came none = no_card id (λ k. card_in n k id) family (λ k. nowhere k ∙ sym (none k))

-- ---- a card that goes

pub went : (me : Bytes) (unsettled : ChatKey → Bool) (family : Family) (states : map_of.FinMap key_cmp ChatState)
    (m : Mailbox) (id : Bytes) (key : ChatKey) (s : Spot) (is : IsAt m id key s) (card : Card) → card ≡ is.mail.placed.card
    → ((k : ChatKey) → family k id ≡ card_in m k id)
    → ((mark : Option Mark) → family key s.id ≡ Some (shown s card mark) → AreStatesOf me unsettled (with_card key s.id None family) states)
    → AreStatesOf me unsettled (with_id id (λ k. None) family) states
went me unsettled family states m id key s is card own same step =
    subst (λ f. AreStatesOf me unsettled f states)
    (one_card id (λ k. None) family key s.id None (id_is m id key s is) refl (λ k apart. sym (same k ∙ elsewhere m id key s is k apart)))
    (step (shown_as m is.mail).mark (ap (family key) (id_is m id key s is) ∙ same key ∙ here m id key s is ∙ was))
  where
    was : Some (shown_as m is.mail) ≡ Some (shown s card (shown_as m is.mail).mark)
    was = λ i. Some (record { spot = is.spot i; card = sym own i; mark = (shown_as m is.mail).mark })
