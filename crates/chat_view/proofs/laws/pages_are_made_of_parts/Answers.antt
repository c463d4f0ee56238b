use Rattle.chat_view.proofs.Parts.{name_of_contact, page_is, list_is, last_is}
use Rattle.chat_view.proofs.laws.pages_are_made_of_parts.Goals as goal

pub returns-clause-name : goal.returns-clause-name
returns-clause-name c = name_of_contact

pub returns-clause-page : goal.returns-clause-page
returns-clause-page c = page_is

pub returns-clause-list : goal.returns-clause-list
returns-clause-list c = list_is

pub returns-clause-last : goal.returns-clause-last
returns-clause-last c = last_is
