use Rattle.touched_chats.proofs.CardsOfSuspects.{card_suspects, suspect_card}
use Rattle.touched_chats.proofs.laws.a_suspect_chat_has_a_suspect_card.Goals as goal

pub returns-clause-card : goal.returns-clause-card
returns-clause-card c = card_suspects

pub returns-clause-chat : goal.returns-clause-chat
returns-clause-chat c = suspect_card
