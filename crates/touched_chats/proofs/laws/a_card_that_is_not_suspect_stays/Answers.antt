use Rattle.touched_chats.proofs.CardStaying.{card_stays, card_change_stays}
use Rattle.touched_chats.proofs.laws.a_card_that_is_not_suspect_stays.Goals as goal

pub returns-clause-stays : goal.returns-clause-stays
returns-clause-stays c = card_stays

pub returns-clause-change : goal.returns-clause-change
returns-clause-change c = card_change_stays
