use Rattle.std.proofs.Common.{◌≡◌}
use Rattle.mailbox_model.specs.Lists.{without}
use Rattle.thread_links.proofs.cites.others.Given as goal

abbrev pub invariant-loop-person : goal.invariant-loop-person
invariant-loop-person l = l.others.items ≡ without l.me l.yielded
