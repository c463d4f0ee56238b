use Rattle.model_laws.proofs.Parts.{same_parts}
use Rattle.model_laws.proofs.laws.answers_follow_from_the_present.Goals as goal

pub returns : goal.returns
returns c = same_parts
