use Rattle.outside.proofs.Model.{keeps_model}
use Rattle.outside.proofs.Whole.{all_left}
use Rattle.outside.proofs.laws.calls_leave_what_the_model_allows.Goals as goal

pub returns-clause-only : goal.returns-clause-only
returns-clause-only c = keeps_model

pub returns-clause-all : goal.returns-clause-all
returns-clause-all c = all_left
