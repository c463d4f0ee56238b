use Rattle.model_laws.proofs.Copies.{later_copy, same_again}
use Rattle.model_laws.proofs.laws.copies_change_nothing.Goals as goal

pub returns-clause-later : goal.returns-clause-later
returns-clause-later c = later_copy

pub returns-clause-again : goal.returns-clause-again
returns-clause-again c = same_again
