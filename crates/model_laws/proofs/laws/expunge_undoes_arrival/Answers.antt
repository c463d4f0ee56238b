use Rattle.std.specs.Prelude.{Ok, Err}
use Rattle.model_laws.proofs.Undone.{undone}
use Rattle.model_laws.proofs.laws.expunge_undoes_arrival.Goals as goal

pub returns-clause-card : goal.returns-clause-card
returns-clause-card c = λ m card changes. undone m (Ok card) changes

pub returns-clause-fault : goal.returns-clause-fault
returns-clause-fault c = λ m fault changes. undone m (Err fault) changes
