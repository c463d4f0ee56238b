use Rattle.std.proofs.Common.{ap, ◌∙◌, ◌&&◌}
use Rattle.std.specs.Prelude.{◌==◌, is_some, if◌then◌else◌}
use Rattle.std.proofs.lemmas.Result.{on_ok_weaker}
use Rattle.indexes.specs.Kept.{deadline_at}
use Rattle.repair.proofs.Deadlines.{renewed}
use Rattle.repair.proofs.settle.renew_deadline.Goals as goal

pub returns : goal.returns
returns c =
    on_ok_weaker c.set_deadline.result (λ set other.
    set other
    ∙ ap (λ deadlines. if c.args.uid == other && is_some c.args.deadline then c.args.deadline else deadline_at deadlines other) c.drop_of.ensures
    ∙ renewed c.args.uid c.args.deadline c.args.timers.now other) c.set_deadline.ensures
