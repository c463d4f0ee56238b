use Rattle.chat_print.proofs.Dates.{chat_dated, list_dated}
use Rattle.chat_print.proofs.laws.pages_have_moments.Goals as goal

pub returns-clause-list : goal.returns-clause-list
returns-clause-list c = list_dated

pub returns-clause-chat : goal.returns-clause-chat
returns-clause-chat c = chat_dated
