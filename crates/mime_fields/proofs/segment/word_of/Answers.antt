use Rattle.std.proofs.Common.{sym, ◌∙◌}
use Rattle.mime_fields.specs.Segments.{ends_word}
use Rattle.mime_fields.proofs.SegmentLemmas.{before_found, none_found}
use Rattle.mime_fields.proofs.segment.word_of.Goals as goal

pub returns-in-Some : goal.returns-in-Some
returns-in-Some c = before_found ends_word c.args.segment.now c.in-Some.end (sym c.word_end.ensures.value ∙ c.in-Some.is)

pub returns-in-None : goal.returns-in-None
returns-in-None c = none_found ends_word c.args.segment.now (sym c.word_end.ensures.value ∙ c.in-None.is)
