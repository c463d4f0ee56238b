use Rattle.mime_parts.proofs.CutLemmas.{spans-cut}
use Rattle.mime_parts.proofs.laws.no_byte_is_lost.Goals as goal

pub returns : goal.returns
returns c = record { whole = spans-cut }
