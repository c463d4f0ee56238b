use Rattle.std.proofs.Common.{◌≡◌, map}
use Rattle.std.specs.Prelude.{IsTrue}
use Rattle.std.specs.List.{list_all}
use Rattle.card_type.specs.Rules.{is_update}
use Rattle.part_read.proofs.UpdateLemmas.{update_in}
use Rattle.part_read.proofs.updates.updates_of.Given as goal

-- the updates of the objects so far
abbrev pub invariant-loop-value : goal.invariant-loop-value
invariant-loop-value l = record {
  can_next : (goal.iterator-loop-value).can_next l.value-iterator;
  ends : (goal.iterator-loop-value).is_finite l.value-iterator;
  so_far : l.found ≡ map update_in l.yielded;
  rule : IsTrue (list_all is_update l.found);
}
