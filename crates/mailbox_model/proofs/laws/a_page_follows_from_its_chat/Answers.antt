use Rattle.mailbox_model.proofs.FrameLaws.{row_alike, page_alike, page_stays, list_row_stays}
use Rattle.mailbox_model.proofs.StateLaws.{time_is, fresh_is}
use Rattle.mailbox_model.proofs.laws.a_page_follows_from_its_chat.Goals as goal

pub returns-clause-card : goal.returns-clause-card
returns-clause-card c = row_alike

pub returns-clause-chat : goal.returns-clause-chat
returns-clause-chat c = page_alike

pub returns-clause-page : goal.returns-clause-page
returns-clause-page c = page_stays

pub returns-clause-list : goal.returns-clause-list
returns-clause-list c = list_row_stays

pub returns-clause-last : goal.returns-clause-last
returns-clause-last c = time_is

pub returns-clause-fresh : goal.returns-clause-fresh
returns-clause-fresh c = fresh_is
