use Rattle.std.proofs.Common.{◌≡◌, drop}
use Rattle.serde_json.specs.View.{items_view}
use Rattle.part_read.specs.Views.{are_objects}
use Rattle.part_read.proofs.updates.are_objects.Given as goal

-- the values so far are objects
abbrev pub invariant-loop-value : goal.invariant-loop-value
invariant-loop-value l = are_objects (items_view (drop l.value-index l.values)) ≡ are_objects (items_view l.values)
