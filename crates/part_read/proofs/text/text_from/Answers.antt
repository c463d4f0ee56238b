use Rattle.std.proofs.lemmas.Str.{is_utf8-from_IsUtf8}
use Rattle.part_read.proofs.text.text_from.Goals as goal

pub returns-clause-utf8 : goal.returns-clause-utf8
returns-clause-utf8 c = is_utf8-from_IsUtf8 c.from-text.result c.bytes-bytes.ensures.utf8
