use Rattle.tail_journal.proofs.Steps.{skips}
use Rattle.tail_journal.proofs.reading.skip.Goals as goal

pub returns : goal.returns
returns c old = skips c.args.bytes.now c.args.at c.args.count c.args.base c.args.body.now c.requires.first c.requires.at c.requires.less old
