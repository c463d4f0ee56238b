use Rattle.std.proofs.Common.{rules}
use Rattle.flowed_text.proofs.WrittenLemmas.{break_before_text}
use Rattle.flowed_text.proofs.flowed.push_break.Goals as goal

pub returns-in_ok-push : goal.returns-in_ok-push
returns-in_ok-push c = rw (break_before_text c.args.rest.now (search rules)) (search rules)
