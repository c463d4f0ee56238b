use Rattle.mailbox_model.proofs.PresentLaws.{mails_all, mails_sorted, present_first, present_once, present_sorted}
use Rattle.mailbox_model.proofs.StillLaws.{present_dates}
use Rattle.mailbox_model.proofs.laws.present_is_in_order.Goals as goal

pub returns-clause-all : goal.returns-clause-all
returns-clause-all c = mails_all

pub returns-clause-order : goal.returns-clause-order
returns-clause-order c = λ m k. mails_sorted m k.uids

pub returns-clause-first : goal.returns-clause-first
returns-clause-first c = present_first

pub returns-clause-once : goal.returns-clause-once
returns-clause-once c = present_once

pub returns-clause-present : goal.returns-clause-present
returns-clause-present c = λ m k. present_sorted m k.uids

pub returns-clause-dates : goal.returns-clause-dates
returns-clause-dates c = present_dates
