use Rattle.mailbox_model.proofs.FrameLaws.{page_stays, list_row_stays}
use Rattle.touched_chats.proofs.Kept.{cards_stay, deadlines_stay}
use Rattle.touched_chats.proofs.Staying.{turn_stays, turn_name_stays, change_stays}
use Rattle.touched_chats.proofs.laws.a_chat_that_is_not_suspect_stays.Goals as goal

pub returns-clause-stays : goal.returns-clause-stays
returns-clause-stays c = turn_stays

pub returns-clause-name : goal.returns-clause-name
returns-clause-name c = turn_name_stays

pub returns-clause-page : goal.returns-clause-page
returns-clause-page c =
    λ m n turn key me is h. page_stays m n key (turn_stays m n turn key me is h) (turn_name_stays m n turn key is h)

pub returns-clause-list : goal.returns-clause-list
returns-clause-list c =
    λ m n turn key me is h. list_row_stays m n key (turn_stays m n turn key me is h) (turn_name_stays m n turn key is h)

pub returns-clause-cards : goal.returns-clause-cards
returns-clause-cards c = λ m n turn key me is h. cards_stay m n key (turn_stays m n turn key me is h)

pub returns-clause-deadlines : goal.returns-clause-deadlines
returns-clause-deadlines c = λ m n turn key me is h. deadlines_stay m n key (turn_stays m n turn key me is h)

pub returns-clause-change : goal.returns-clause-change
returns-clause-change c = change_stays
