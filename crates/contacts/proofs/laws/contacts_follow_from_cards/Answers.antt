use Rattle.contacts.proofs.Changes.{added, removed}
use Rattle.contacts.proofs.Standing.{last_name_is}
use Rattle.contacts.proofs.PageLaws.{page_is}
use Rattle.contacts.proofs.laws.contacts_follow_from_cards.Goals as goal

pub returns-clause-name : goal.returns-clause-name
returns-clause-name c = last_name_is

pub returns-clause-page : goal.returns-clause-page
returns-clause-page c = λ kept ps me rows stands. page_is kept ps stands me rows

pub returns-clause-add : goal.returns-clause-add
returns-clause-add c = added

pub returns-clause-remove : goal.returns-clause-remove
returns-clause-remove c = removed
