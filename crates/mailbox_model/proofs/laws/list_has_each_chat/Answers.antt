use Rattle.mailbox_model.proofs.ListLaws.{rows_all, keys_once, rows_are, pages_are, rows_sorted}
use Rattle.mailbox_model.proofs.laws.list_has_each_chat.Goals as goal

pub returns-clause-rows : goal.returns-clause-rows
returns-clause-rows c = rows_all

pub returns-clause-once : goal.returns-clause-once
returns-clause-once c = keys_once

pub returns-clause-chats : goal.returns-clause-chats
returns-clause-chats c = rows_are

pub returns-clause-order : goal.returns-clause-order
returns-clause-order c = rows_sorted

pub returns-clause-pages : goal.returns-clause-pages
returns-clause-pages c = pages_are
