use Rattle.std.proofs.Common.{arith}
use Rattle.lists.proofs.ChunkSteps.{length_next}
use Rattle.lists.proofs.chunks.place_of.Goals as goal

pub loop-chunk-preserved : goal.loop-chunk-preserved
loop-chunk-preserved g c =
    let next = length_next c.args.chunks.now c.loop-chunk.chunk c.index-chunks-chunk.result c.loop-chunk-test.true c.index-chunks-chunk.is in
    record {
      within = omega (arith, c.loop-chunk-test.true);
      sum = omega (arith, next, c.len-len.ensures, c.loop-chunk.invariant.sum, c.if-rest-len.false);
    }
