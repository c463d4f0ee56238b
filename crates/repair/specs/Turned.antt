-- The cards of a turn.
use Rattle.std.specs.Prelude.{◌≡◌, ℕ, Bool, Some, List, ◌++◌}
use Rattle.std.specs.List.{list_any}
use Rattle.std.specs.Option.{option_copied, option_to_list}
use Rattle.card_type.specs.declared.card.Card.{Card}
use Rattle.mailbox_model.specs.declared.turn.Turn.{Turn}
use Rattle.mailbox_model.specs.Mailbox.{Mailbox}
use Rattle.mailbox_model.specs.Present.{Mail, mail_at}
use Rattle.touched_chats.specs.Suspects.{turned}
use Rattle.repair.specs.declared.turned.TurnedCards.{TurnedCards}

-- two mailboxes have one card under each uid
abbrev pub NameOneMail : Mailbox → Mailbox → Type 0
NameOneMail m n = (uid : ℕ) (t u : Mail) → mail_at m uid ≡ Some t → mail_at n uid ≡ Some u → t.placed.card ≡ u.placed.card

-- those that are there
abbrev pub cards_of : TurnedCards → List Card
cards_of cards = option_to_list (option_copied cards.first) ++ option_to_list (option_copied cards.second)

-- they are the cards of the mails of a turn: each test tells both alike
abbrev pub AreTurned : Mailbox → Mailbox → Turn → TurnedCards → Type 0
AreTurned m n turn cards = (q : Card → Bool) → list_any (λ t. q t.placed.card) (turned m n turn) ≡ list_any q (cards_of cards)
