use Rattle.touched_chats.proofs.Covered.{touched_suspect}
use Rattle.touched_chats.proofs.laws.a_touched_chat_is_suspect.Goals as goal

pub returns : goal.returns
returns c = touched_suspect
