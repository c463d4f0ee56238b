use Rattle.std.proofs.lemmas.Str.{is_utf8-from_IsUtf8}
use Rattle.card_type.proofs.record.TextRecorded.weight.Goals as goal

pub returns-clause-rule : goal.returns-clause-rule
returns-clause-rule c = is_utf8-from_IsUtf8 c.args.self.now c.bytes.ensures.utf8
