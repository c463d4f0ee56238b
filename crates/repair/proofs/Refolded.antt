-- The spots of the state of a chat are those of its cards, which are read at them.
use Rattle.std.proofs.Common.{◌≡◌, refl, ap, ◌∙◌, Bool, true, Option, Some, None, List, [], ◌∷◌, length, map}
use Rattle.std.specs.Prelude.{is_some}
use Rattle.std.specs.List.{AllByRecursion, cons_option}
use Rattle.std.specs.Option.{option_map}
use Rattle.std.proofs.lemmas.List.{length-map}
use Rattle.lists.proofs.Inserts.{All-filter}
use Rattle.card_type.specs.declared.key.ChatKey.{ChatKey}
use Rattle.card_type.specs.declared.spot.Spot.{Spot}
use Rattle.group_roster.specs.Setters.{at}
use Rattle.chat_view.specs.declared.state.ChatState.{ChatState}
use Rattle.chat_view.specs.Standing.{placed_at}
use Rattle.mailbox_model.specs.Lists.{Bytes}
use Rattle.mailbox_model.specs.Mailbox.{Mailbox, IsMailbox, card_at}
use Rattle.mailbox_model.specs.Present.{Mail, mail_at, spot, contents, present}
use Rattle.mailbox_model.specs.Chats.{chat, chat_mails, is_chat}
use Rattle.mailbox_model.specs.States.{chat_cards, shown_as}
use Rattle.mailbox_model.proofs.UidLaws.{present_own}
use Rattle.chat_states.specs.States.{Has}
use Rattle.chat_states.proofs.Followed.{are_none}
use Rattle.chat_states.proofs.OneCard.{one_list}
use Rattle.indexes.proofs.Mails.{card_is}
use Rattle.touched_chats.proofs.Near.{is_content_mail}
use Rattle.repair.specs.Cards.{card_in, cards_at}
use Rattle.repair.proofs.ChatCards.{cards_of_chat}

module _ (n : Mailbox) (rules : IsMailbox n) (key : ChatKey) where
  own : AllByRecursion (λ t. mail_at n t.placed.uid ≡ Some t) (chat_mails n key)
  own =
      All-filter (λ t. mail_at n t.placed.uid ≡ Some t) (λ t. is_chat key (chat n t.placed.card.id)) (contents n)
      (All-filter (λ t. mail_at n t.placed.uid ≡ Some t) is_content_mail (present n) (present_own n rules.uids))

  spots : List Mail → List Spot
  spots ts = map (λ c. c.spot) (map (shown_as n) ts)

  -- each card is read at its spot
  pub all_there : AllByRecursion (λ s. is_some (card_at n s.uid) ≡ true) (map (λ c. c.spot) (chat_cards n key))
  all_there = each (chat_mails n key) own
    where
      each : (ts : List Mail) → AllByRecursion (λ t. mail_at n t.placed.uid ≡ Some t) ts
          → AllByRecursion (λ s. is_some (card_at n s.uid) ≡ true) (map (λ c. c.spot) (map (shown_as n) ts))
      each [] a = tt
      each (t ∷ ts) a = (ap is_some (card_is n t.placed.uid t a.0), each ts a.1)

  pub all_read : cards_at n (map (λ c. c.spot) (chat_cards n key)) ≡ placed_at (chat_cards n key)
  all_read = each (chat_mails n key) own
    where
      each : (ts : List Mail) → AllByRecursion (λ t. mail_at n t.placed.uid ≡ Some t) ts
          → cards_at n (map (λ c. c.spot) (map (shown_as n) ts)) ≡ placed_at (map (shown_as n) ts)
      each [] a = refl
      each (t ∷ ts) a =
          (λ i. cons_option (option_map (at (spot t.placed)) (card_is n t.placed.uid t a.0 i)) (cards_at n (map (λ c. c.spot) (map (shown_as n) ts))))
          ∙ ap (λ more. at (spot t.placed) t.placed.card ∷ more) (each ts a.1)

  pub as_many : length (map (λ c. c.spot) (chat_cards n key)) ≡ length (chat_mails n key)
  as_many = length-map (chat_cards n key) (λ c. c.spot) ∙ length-map (chat_mails n key) (shown_as n)

  -- the spots of the state, or none where there is no state
  pub spots_are : (me : Bytes) (unsettled : Bool) (state : Option ChatState) → Has me key unsettled (card_in n key) state → (ss : List Spot)
      → ((s : ChatState) → state ≡ Some s → ss ≡ s.spots) → (state ≡ None → ss ≡ []) → ss ≡ map (λ c. c.spot) (chat_cards n key)
  spots_are me unsettled None has ss some none =
      none refl ∙ ap (map (λ c. c.spot)) (one_list (card_in n key) [] (chat_cards n key) (are_none (card_in n key) has) (cards_of_chat n rules key))
  spots_are me unsettled (Some s) has ss some none =
      some s refl ∙ has.0.follows.marked.spots
      ∙ ap (map (λ c. c.spot)) (one_list (card_in n key) has.0.cards (chat_cards n key) has.0.are (cards_of_chat n rules key))
