use Rattle.model_laws.proofs.Marks.{seen_once}
use Rattle.model_laws.proofs.Unmarked.{page_marked, list_marked, contacts_kept, all_updates_kept, info_updates_kept}
use Rattle.model_laws.proofs.laws.marks_change_marks_alone.Goals as goal

pub returns-clause-chats : goal.returns-clause-chats
returns-clause-chats c = page_marked

pub returns-clause-list : goal.returns-clause-list
returns-clause-list c = list_marked

pub returns-clause-contacts : goal.returns-clause-contacts
returns-clause-contacts c = contacts_kept

pub returns-clause-updates : goal.returns-clause-updates
returns-clause-updates c = all_updates_kept

pub returns-clause-infos : goal.returns-clause-infos
returns-clause-infos c = info_updates_kept

pub returns-clause-again : goal.returns-clause-again
returns-clause-again c = seen_once
