use Rattle.model_laws.proofs.Faults.{others-fault, rows-fault, faults-fault}
use Rattle.model_laws.proofs.laws.unreadable_mails_are_lines.Goals as goal

pub returns-clause-others : goal.returns-clause-others
returns-clause-others c = others-fault

pub returns-clause-chats : goal.returns-clause-chats
returns-clause-chats c = rows-fault

pub returns-clause-line : goal.returns-clause-line
returns-clause-line c = faults-fault
