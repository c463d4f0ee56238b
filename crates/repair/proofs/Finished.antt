-- Once all cards are settled and all rosters folded, the states are those after the change.
use Rattle.std.proofs.Common.{◌≡◌, false}
use Rattle.std.specs.Prelude.{is_some}
use Rattle.std.specs.FinMap as map_of
use Rattle.card_type.specs.declared.key.ChatKey.{ChatKey}
use Rattle.card_type.specs.Keys.{key_cmp}
use Rattle.chat_view.specs.declared.state.ChatState.{ChatState}
use Rattle.mailbox_model.specs.Mailbox.{Mailbox, IsMailbox}
use Rattle.mailbox_model.specs.Present.{present}
use Rattle.mailbox_model.specs.States.{chat_cards}
use Rattle.touched_chats.specs.Touched.{has_chat}
use Rattle.chat_states.specs.States.{AreStatesOf}
use Rattle.chat_states.proofs.Followed.{told}
use Rattle.indexes.specs.Kept.{AreStates}
use Rattle.indexes.proofs.AllKeys.{has_state as has_states}
use Rattle.repair.specs.Cards.{card_in}
use Rattle.repair.proofs.ChatCards.{cards_of_chat}

module _ (n : Mailbox) (l : IsMailbox n) (states : map_of.FinMap key_cmp ChatState) (settled : AreStatesOf n.me (λ _. false) (card_in n) states) where
  pub states_end : AreStates n (present n) states
  states_end key = told n.me key (card_in n key) (chat_cards n key) (map_of.get states key) (cards_of_chat n l key) (settled key)

  -- a chat has a state where it is there
  pub has_state : (key : ChatKey) → is_some (map_of.get states key) ≡ has_chat n key
  has_state = has_states n states states_end
