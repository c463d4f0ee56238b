use Rattle.mailbox_model.proofs.UidLaws.{present_own, present_uids, one_card}
use Rattle.mailbox_model.proofs.laws.uids_name_one_mail.Goals as goal

pub returns-clause-entry : goal.returns-clause-entry
returns-clause-entry c = λ m k. present_own m k.uids

pub returns-clause-once : goal.returns-clause-once
returns-clause-once c = λ m k. present_uids m k.uids

pub returns-clause-ever : goal.returns-clause-ever
returns-clause-ever c = λ m changes uid before later k. one_card m changes uid before later k.uids
