use Rattle.thread_links.proofs.ChangeLaws.{settled_empty}
use Rattle.thread_links.proofs.links.Links.new.Goals as goal

pub invariant_of-result : goal.invariant_of-result
invariant_of-result c _ = settled_empty c.new.result.entries c.new-2.result c.new.ensures.empty c.new.ensures.ordered c.new-2.ensures
