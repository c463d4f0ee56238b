use Rattle.touched_chats.proofs.Due.{due_touched}
use Rattle.touched_chats.proofs.Exact.{moved_touched, turned_concerned}
use Rattle.touched_chats.proofs.Renamed.{renamed_touched}
use Rattle.touched_chats.proofs.Suspected.{suspect_touched, exactly_touched}
use Rattle.touched_chats.proofs.laws.a_suspect_chat_is_touched.Goals as goal

pub returns-clause-moved : goal.returns-clause-moved
returns-clause-moved c = moved_touched

pub returns-clause-turned : goal.returns-clause-turned
returns-clause-turned c = turned_concerned

pub returns-clause-renamed : goal.returns-clause-renamed
returns-clause-renamed c = renamed_touched

pub returns-clause-due : goal.returns-clause-due
returns-clause-due c = due_touched

pub returns-clause-touched : goal.returns-clause-touched
returns-clause-touched c = suspect_touched

pub returns-clause-exact : goal.returns-clause-exact
returns-clause-exact c = exactly_touched
