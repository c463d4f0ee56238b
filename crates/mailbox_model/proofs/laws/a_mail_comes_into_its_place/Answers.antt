use Rattle.mailbox_model.proofs.OneMail.{last_mail, last_in_order, last_once, others_in_order, other_spots, other_ids}
use Rattle.mailbox_model.proofs.laws.a_mail_comes_into_its_place.Goals as goal

pub returns-clause-last : goal.returns-clause-last
returns-clause-last c = last_mail

pub returns-clause-order : goal.returns-clause-order
returns-clause-order c = last_in_order

pub returns-clause-once : goal.returns-clause-once
returns-clause-once c = last_once

pub returns-clause-left : goal.returns-clause-left
returns-clause-left c = others_in_order

pub returns-clause-spot : goal.returns-clause-spot
returns-clause-spot c = other_spots

pub returns-clause-id : goal.returns-clause-id
returns-clause-id c = other_ids
