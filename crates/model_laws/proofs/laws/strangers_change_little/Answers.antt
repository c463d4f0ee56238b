use Rattle.model_laws.proofs.Strangers.{stranger, received_row, sent_row, edits_row}
use Rattle.model_laws.proofs.laws.strangers_change_little.Goals as goal

pub returns-clause-effect : goal.returns-clause-effect
returns-clause-effect c = stranger

pub returns-clause-received : goal.returns-clause-received
returns-clause-received c = λ m e t new no_person other.
    received_row m e t new (stranger e t.placed.card m.me no_person) other

pub returns-clause-sent : goal.returns-clause-sent
returns-clause-sent c = λ m e t new no_person. sent_row m e t new (stranger e t.placed.card m.me no_person)

pub returns-clause-edits : goal.returns-clause-edits
returns-clause-edits c = edits_row
