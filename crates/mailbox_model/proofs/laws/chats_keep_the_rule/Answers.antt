use Rattle.mailbox_model.proofs.ChatLaws.{chats_keep, chats_alone, chat_by_parent, chats_only, cites_once}
use Rattle.mailbox_model.proofs.laws.chats_keep_the_rule.Goals as goal

pub returns-clause-rule : goal.returns-clause-rule
returns-clause-rule c = chats_keep

pub returns-clause-only : goal.returns-clause-only
returns-clause-only c = chats_alone

pub returns-clause-any_rule : goal.returns-clause-any_rule
returns-clause-any_rule c = chat_by_parent

pub returns-clause-any_only : goal.returns-clause-any_only
returns-clause-any_only c = chats_only

pub returns-clause-once : goal.returns-clause-once
returns-clause-once c = cites_once
