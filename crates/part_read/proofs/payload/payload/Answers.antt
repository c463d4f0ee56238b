use Rattle.std.proofs.Common.{length}
use Rattle.std.proofs.lemmas.Bool.{lt-ltb}
use Rattle.part_read.proofs.Texts.{text_some}
use Rattle.part_read.proofs.payload.payload.Goals as goal

pub returns-clause-nonempty : goal.returns-clause-nonempty
returns-clause-nonempty c =
    let text = c.text_from.result in
    lt-ltb 0 (length text) (rw c.text_from.ensures.value (text_some _ _ c.in_ok-to_string.ensures.order))
