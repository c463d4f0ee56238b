use Rattle.std.proofs.Common.{◌≡◌, take}
use Rattle.std.specs.Prelude.{filter_map}
use Rattle.indexes.proofs.PagedFaults.{fault_of}
use Rattle.indexes.proofs.pages.fault_rows.Given as goal

-- the rows of the items so far are there
abbrev pub invariant-loop-item : goal.invariant-loop-item
invariant-loop-item l = l.faults ≡ filter_map fault_of (take l.item-index l.item-items)
