use Rattle.std.proofs.Common.{[]}
use Rattle.repair.proofs.Draining.{none_drained}
use Rattle.repair.proofs.Sets.{ids_once}
use Rattle.repair.proofs.whole.ids_to_settle.Goals as goal

pub returns-in_err-changed-clause-cost : goal.returns-in_err-changed-clause-cost
returns-in_err-changed-clause-cost g c = (none_drained c.args.mailbox.now.mailbox c.args.view.now.now [] [] c.args.steps.now).read

pub returns-in_err-note_told-clause-cost : goal.returns-in_err-note_told-clause-cost
returns-in_err-note_told-clause-cost g c = (none_drained c.args.mailbox.now.mailbox c.args.view.now.now [] [] c.args.steps.now).read

pub returns-clause-once : goal.returns-clause-once
returns-clause-once g c = ids_once c.drain.new.ids.keys c.len-len.ensures.ordered
