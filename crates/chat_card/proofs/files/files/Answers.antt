use Rattle.std.proofs.Common.{arith}
use Rattle.std.proofs.lemmas.Grind.{common_steps}
use Rattle.std.proofs.lemmas.List.{map-append}
use Rattle.std.proofs.lemmas.List.Elements.{filter_map-append}
use Rattle.chat_card.proofs.files.files.Goals as goal
use Rattle.chat_card.proofs.files.files.Goals.{in-File+in_ok-push, in_default}

pub loop-part-preserved : goal.loop-part-preserved
loop-part-preserved c = elim c.match-part.branch [
  | in-File+in_ok-push w ↦ grind (arith, common_steps, filter_map-append, map-append)
  | in_default w ↦ grind (arith, common_steps, filter_map-append)
]
