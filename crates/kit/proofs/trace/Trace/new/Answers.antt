use Rattle.kit.proofs.ChainLaws.{stands_none}
use Rattle.kit.proofs.trace.Trace.new.Goals as goal

pub returns-clause-stands : goal.returns-clause-stands
returns-clause-stands c = stands_none
