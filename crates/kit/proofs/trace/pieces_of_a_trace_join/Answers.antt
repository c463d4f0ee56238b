use Rattle.kit.proofs.ChainLaws.{cut_on-append}
use Rattle.kit.proofs.trace.pieces_of_a_trace_join.Goals as goal

pub returns : goal.returns
returns c = cut_on-append
