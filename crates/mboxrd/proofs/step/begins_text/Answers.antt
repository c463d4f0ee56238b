use Rattle.std.proofs.Common.{rules}
use Rattle.mboxrd.proofs.Unchanged.{steps_text}
use Rattle.mboxrd.proofs.step.begins_text.Goals as goal
use Rattle.mboxrd.proofs.step.begins_text.Goals.{in-62, in_default}

pub returns : goal.returns
returns c = λ text. elim c.match-matches.branch [
  | in-62 w ↦ (let e = rw w.matches-is at text in cc)
  | in_default w ↦ steps_text c.args.b (search rules) (search rules) (search rules)
]
