-- The course of a repair: what holds at its beginning, what it may read, and what holds at its end.
use Rattle.std.proofs.Common.{◌≡◌, refl, sym, ap, ◌∙◌, subst, ℕ, ◌+◌, ◌≤◌, Bool, true, false, None, List, [], length, map}
use Rattle.std.specs.Prelude.{if◌then◌else◌, nat_eq, sum_by}
use Rattle.std.specs.FinMap as map_of
use Rattle.std.specs.List.{list_any, AllByRecursion, IsDistinct}
use Rattle.std.specs.List.Sorted.{IsStrictlySortedBy}
use Rattle.std.specs.Str.{bytes_eq}
use Rattle.std.proofs.lemmas.Bool.{both_ways, false≢true}
use Rattle.card_type.specs.declared.key.ChatKey.{ChatKey}
use Rattle.card_type.specs.Effects.{is_among}
use Rattle.card_type.specs.Keys.{key_cmp, key_eq}
use Rattle.chat_view.specs.declared.state.ChatState.{ChatState}
use Rattle.mailbox_model.specs.declared.change.Change.{Change}
use Rattle.mailbox_model.specs.declared.turn.Turn.{Turn}
use Rattle.mailbox_model.specs.ChatList.{Dated}
use Rattle.mailbox_model.specs.Chats.{chat_mails}
use Rattle.mailbox_model.specs.Lists.{Bytes}
use Rattle.mailbox_model.specs.Mailbox.{Mailbox, after, IsMailbox}
use Rattle.mailbox_model.specs.Present.{present}
use Rattle.mailbox_model.specs.Turns.{IsTurn}
use Rattle.mailbox_model.proofs.ChatLaws.{same_bytes}
use Rattle.mailbox_model.proofs.RuleLaws.{change_keeps}
use Rattle.touched_chats.specs.Costs.{change_cost, settle_reads, touched_keys, AreHeld}
use Rattle.touched_chats.specs.Suspects.{is_suspect_card, uid_falls_due}
use Rattle.touched_chats.proofs.Among.{all_among, found_any}
use Rattle.touched_chats.proofs.Repairs.{change_fits}
use Rattle.contacts.specs.Kept.{StandsFor as AreContacts}
use Rattle.effects.specs.Named.{StandsFor as AreEffects}
use Rattle.chat_states.specs.States.{AreStatesOf, has_key}
use Rattle.indexes.specs.declared.indexes.Indexes.{Indexes}
use Rattle.indexes.specs.Kept.{AreDated, AreKept, AreOf, deadline_at}
use Rattle.indexes.specs.Views.{IsComing}
use Rattle.repair.specs.declared.touched.Touched.{Touched}
use Rattle.repair.specs.Cards.{IsBetween, card_in, family_between, nothing_noted}
use Rattle.repair.specs.Repaired.{AreTouched}
use Rattle.repair.specs.Turned.{NameOneMail}
use Rattle.repair.proofs.Finished.{states_end}
use Rattle.repair.proofs.OneCard.{change_names_one}
use Rattle.repair.proofs.Started.{deadlines_start, states_start}
use Rattle.repair.proofs.Turns.{coming_me, coming_turn}

pub none_once : {X : Type 0} (same : X → X → Bool) → IsDistinct same []
unfolding IsDistinct
none_once same = tt

module _ (m : Mailbox) (change : Change) (turns : Turn) (coming : IsComing m change turns) (n : Mailbox) (seen : n ≡ after m change) where
  pub turn_is : IsTurn m n turns
  turn_is = subst (λ x. IsTurn m x turns) (sym seen) (coming_turn m change turns coming)

  pub me_is : m.me ≡ n.me
  me_is = coming_me m change ∙ ap (λ x. x.me) (sym seen)

  pub one_each : NameOneMail m n
  one_each = subst (NameOneMail m) (sym seen) (change_names_one m change coming.rules)

  pub rules_after : IsMailbox n
  rules_after = subst IsMailbox (sym seen) (change_keeps m change coming.rules coming.valid coming.room)

  -- ---- what is read

  abbrev pub Fits : Mailbox → Turn → Type 0
  Fits x t =
      (ids : List Bytes) (keys : List ChatKey) (uids : List ℕ) → IsDistinct bytes_eq ids → AllByRecursion (λ id. is_suspect_card m x t id ≡ true) ids
      → IsDistinct key_eq keys → AreHeld (touched_keys m x t) keys → IsDistinct nat_eq uids → AllByRecursion (λ uid. uid_falls_due m x.now uid ≡ true) uids
      → sum_by (settle_reads m x) ids + sum_by (λ key. length (chat_mails x key)) keys + length uids + 16 ≤ change_cost m change

  pub fits : Fits n turns
  fits = subst (λ x. Fits x turns) (sym seen) (subst (Fits (after m change)) (sym coming.turn) (change_fits m change coming.rules coming.valid coming.room))

  pub each_suspect : (ids : List Bytes) → ((id : Bytes) → is_among ids id ≡ is_suspect_card m n turns id) → AllByRecursion (λ id. is_suspect_card m n turns id ≡ true) ids
  each_suspect ids are = all_among (λ id. is_suspect_card m n turns id ≡ true) ids (λ id there. sym (are id) ∙ found_any (bytes_eq id) id ids there (same_bytes id))

  -- ---- before any card is settled

  pub begins : (start mid x : Indexes) → AreKept m start → mid ≡ record start { links = mid.links; effects = mid.effects; contacts = mid.contacts }
      → x ≡ record mid { timers = x.timers }
      → ((uid : ℕ) → deadline_at x.timers uid ≡ (if uid_falls_due m n.now uid then None else deadline_at mid.timers uid))
      → (ids : List Bytes) → ((id : Bytes) → is_among ids id ≡ is_suspect_card m n turns id) → IsBetween m n ids nothing_noted x x
  begins start mid x kept rest more timers ids are =
      record {
        states = subst (AreStatesOf n.me (λ _. false) (family_between m n ids)) (sym (ap (λ y. y.chats) more ∙ ap (λ y. y.chats) rest)) (states_start m n coming.rules rules_after turns me_is turn_is ids are start.chats kept.chats);
        deadlines =
            deadlines_start m n coming.rules rules_after turns me_is turn_is ids are start.timers x.timers kept.timers
            (λ uid. timers uid ∙ ap (λ y. if uid_falls_due m n.now uid then None else deadline_at y uid) (ap (λ y. y.timers) rest));
        others = λ key h. refl;
        marked = λ key h. h;
        rest = refl;
      }

  -- ---- at the end

  module _ (mid x y : Indexes) (noted : Touched) (more : x ≡ record mid { timers = x.timers }) (cards : AreOf n.me (present n) mid) (between : IsBetween m n [] noted x y) where
    -- the links, the effects and the contacts are no longer touched
    pub cards_end : AreOf n.me (present n) y
    cards_end =
        record {
          whole = ap (λ z. z.links.whole) between.rest ∙ ap (λ z. z.links.whole) more ∙ cards.whole;
          links = ap (λ z. z.links.cites) between.rest ∙ ap (λ z. z.links.cites) more ∙ cards.links;
          effects = subst (λ e. AreEffects e (map (λ t. t.placed) (present n))) (sym (ap (λ z. z.effects) between.rest ∙ ap (λ z. z.effects) more)) cards.effects;
          contacts = subst (λ e. AreContacts e (map (λ t. t.placed) (present n))) (sym (ap (λ z. z.contacts) between.rest ∙ ap (λ z. z.contacts) more)) cards.contacts;
        }

    pub ends : (start : Indexes) (chats : map_of.FinMap key_cmp ChatState) (order : List Dated) → AreKept m start
        → mid ≡ record start { links = mid.links; effects = mid.effects; contacts = mid.contacts }
        → AreStatesOf n.me (λ _. false) (card_in n) chats
        → (final : List ChatKey) → ((key : ChatKey) → has_key final key ≡ false → has_key noted.touched key ≡ false)
        → ((key : ChatKey) → has_key noted.unsettled key ≡ false → map_of.get chats key ≡ map_of.get y.chats key)
        → ((before : map_of.FinMap key_cmp ChatState) → AreDated before y.order → ((key : ChatKey) → has_key final key ≡ false → map_of.get chats key ≡ map_of.get before key) → AreDated chats order)
        → AreKept n (record y { chats = chats; order = order })
    ends start chats order kept rest settled final wider same ordered =
        record {
          cards = record { whole = cards_end.whole; links = cards_end.links; effects = cards_end.effects; contacts = cards_end.contacts };
          chats = states_end n rules_after chats settled;
          timers = λ uid. between.deadlines uid (λ id h. absurd (false≢true h));
          order =
              ordered start.chats
              (subst (AreDated start.chats) (sym (ap (λ z. z.order) between.rest ∙ ap (λ z. z.order) more ∙ ap (λ z. z.order) rest)) kept.order) unchanged;
        }
      where
        not_unsettled : (key : ChatKey) → has_key noted.touched key ≡ false → has_key noted.unsettled key ≡ false
        not_unsettled key h =
            elim (has_key noted.unsettled key) as (λ b. has_key noted.unsettled key ≡ b → b ≡ false) [
              | true ↦ λ e. absurd (both_ways (has_key noted.touched key) h (between.marked key e))
              | false ↦ λ e. refl
            ] refl

        unchanged : (key : ChatKey) → has_key final key ≡ false → map_of.get chats key ≡ map_of.get start.chats key
        unchanged key h =
            let apart = wider key h in
            same key (not_unsettled key apart)
            ∙ between.others key apart
            ∙ ap (λ c. map_of.get c key) (ap (λ z. z.chats) more ∙ ap (λ z. z.chats) rest)

  -- ---- which chats were touched

  pub all_touched : (final : List ChatKey) → ((key : ChatKey) → has_key final key ≡ list_any (key_eq key) (touched_keys m n turns))
      → IsStrictlySortedBy key_cmp final → AreTouched m change final
  all_touched final are sorted =
      record {
        order = sorted;
        all = λ key. are key ∙ (λ i. list_any (key_eq key) (touched_keys m (seen i) (coming.turn i)));
      }
