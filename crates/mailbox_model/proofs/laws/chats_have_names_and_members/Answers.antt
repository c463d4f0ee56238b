use Rattle.std.proofs.Common.{◌∙◌}
use Rattle.mailbox_model.proofs.ListLaws.{keys_are}
use Rattle.mailbox_model.proofs.MemberLaws.{some_name, members_once}
use Rattle.mailbox_model.proofs.laws.chats_have_names_and_members.Goals as goal

pub returns-clause-name : goal.returns-clause-name
returns-clause-name c = λ m key. some_name key _ _

pub returns-clause-members : goal.returns-clause-members
returns-clause-members c = λ m key h. members_once m key (keys_are m key ∙ h)
