use Rattle.std.proofs.Common.{ap, ◌∙◌}
use Rattle.std.specs.Prelude.{◌==◌}
use Rattle.std.proofs.lemmas.Result.{on_ok_weaker}
use Rattle.indexes.specs.Kept.{deadline_at}
use Rattle.indexes.proofs.Ordered.{deadline_with, of_some}
use Rattle.indexes.proofs.build.set_deadline.Goals as goal

pub returns-in-Some : goal.returns-in-Some
returns-in-Some c =
    on_ok_weaker c.put.result (λ is other.
    ap (λ deadlines. deadline_at deadlines other) is
    ∙ deadline_with c.in-Some.deadline c.args.uid c.args.timers.now other
    ∙ of_some (c.args.uid == other) c.args.deadline (deadline_at c.args.timers.now other) c.in-Some.deadline c.in-Some.is) c.put.ensures
