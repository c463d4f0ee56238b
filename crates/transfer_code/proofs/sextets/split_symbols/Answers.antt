use Rattle.std.proofs.lemmas.List.{take_rest}
use Rattle.transfer_code.proofs.SymbolRuns.{split-none, split-some}
use Rattle.transfer_code.proofs.sextets.split_symbols.Goals as goal

pub returns-in-Some-clause-value : goal.returns-in-Some-clause-value
returns-in-Some-clause-value c = rw take_rest (split-some c.args.bytes.now c.in-Some.at c.in-Some.ensures.value)

pub returns-in-None-clause-value : goal.returns-in-None-clause-value
returns-in-None-clause-value c = split-none c.args.bytes.now c.in-None.ensures.value
