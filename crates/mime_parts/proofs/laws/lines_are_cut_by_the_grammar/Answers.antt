use Rattle.kit.specs.Lines.{raw_lines}
use Rattle.mime_parts.proofs.CutLemmas.{cut-into}
use Rattle.mime_parts.proofs.laws.lines_are_cut_by_the_grammar.Goals as goal

pub returns : goal.returns
returns c = record { grammar = λ boundary bytes. cut-into boundary (raw_lines bytes) }
