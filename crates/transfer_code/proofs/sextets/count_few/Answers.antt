use Rattle.std.proofs.Common.{arith}
use Rattle.transfer_code.proofs.SymbolRuns.{count-more}
use Rattle.transfer_code.proofs.sextets.count_few.Goals as goal

pub loop-b-preserved : goal.loop-b-preserved
loop-b-preserved c =
    count-more c.args.bytes.now c.loop-b.b-index c.loop-b.count c.from-count.result c.is_symbol.result (omega arith)
    c.loop-b.invariant c.is_symbol.ensures c.from-count.ensures
