use Rattle.mailbox_model.proofs.CountLaws.{few_contents, few_updates, few_brought}
use Rattle.mailbox_model.proofs.PeopleLaws.{few_mentions}
use Rattle.mailbox_model.proofs.laws.a_mailbox_is_bounded.Goals as goal

pub returns-clause-contents : goal.returns-clause-contents
returns-clause-contents c = few_contents

pub returns-clause-updates : goal.returns-clause-updates
returns-clause-updates c = λ m t k. few_updates m k t.placed.card

pub returns-clause-people : goal.returns-clause-people
returns-clause-people c = few_mentions

pub returns-clause-brought : goal.returns-clause-brought
returns-clause-brought c = few_brought
