use Rattle.model_laws.proofs.Clocks.{answer_still}
use Rattle.model_laws.proofs.laws.only_deadlines_change_with_time.Goals as goal

pub returns : goal.returns
returns c = answer_still
