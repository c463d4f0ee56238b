use Rattle.model_laws.proofs.Brought.{bring_same}
use Rattle.model_laws.proofs.Printed.{number_of}
use Rattle.model_laws.proofs.SameCards.{list_same, contacts_same, updates_same, infos_same, page_same}
use Rattle.model_laws.proofs.laws.order_of_arrival_is_not_seen.Goals as goal

pub returns-clause-brought : goal.returns-clause-brought
returns-clause-brought c = bring_same

pub returns-clause-list : goal.returns-clause-list
returns-clause-list c = list_same

pub returns-clause-contacts : goal.returns-clause-contacts
returns-clause-contacts c = contacts_same

pub returns-clause-updates : goal.returns-clause-updates
returns-clause-updates c = updates_same

pub returns-clause-infos : goal.returns-clause-infos
returns-clause-infos c = infos_same

pub returns-clause-chats : goal.returns-clause-chats
returns-clause-chats c = page_same

pub returns-clause-numbers : goal.returns-clause-numbers
returns-clause-numbers c = number_of
