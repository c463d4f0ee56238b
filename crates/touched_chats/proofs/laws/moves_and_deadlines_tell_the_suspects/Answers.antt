use Rattle.touched_chats.proofs.Telling.{added_tell, removed_tell, moved_once, none_due, contents_by_uid, turned_own}
use Rattle.touched_chats.proofs.laws.moves_and_deadlines_tell_the_suspects.Goals as goal

pub returns-clause-add : goal.returns-clause-add
returns-clause-add c = added_tell

pub returns-clause-remove : goal.returns-clause-remove
returns-clause-remove c = removed_tell

pub returns-clause-between : goal.returns-clause-between
returns-clause-between c = moved_once

pub returns-clause-due : goal.returns-clause-due
returns-clause-due c = none_due

pub returns-clause-uid : goal.returns-clause-uid
returns-clause-uid c = contents_by_uid

pub returns-clause-mails : goal.returns-clause-mails
returns-clause-mails c = turned_own
