use Rattle.std.proofs.Common.{◌≡◌, drop}
use Rattle.std.specs.Prelude.{find}
use Rattle.thread_links.specs.Kept.{is_earlier, parent_in}
use Rattle.thread_links.proofs.kept.parent.Given as goal

abbrev pub invariant-loop-id : goal.invariant-loop-id
invariant-loop-id l = find (is_earlier l.kept.entries l.cites) (drop l.id-index l.id-items) ≡ parent_in l.kept.entries l.cites
