use Rattle.std.proofs.Common.{◌≡◌, ◌≤◌, take}
use Rattle.std.specs.Prelude.{count_by}
use Rattle.std.specs.Ordering.{is_lt}
use Rattle.card_type.specs.Spots.{spot_cmp}
use Rattle.group_roster.proofs.stays.count_before.Given as goal

abbrev pub invariant-loop-other : goal.invariant-loop-other
invariant-loop-other l =
    (l.count ≡ count_by (λ other. is_lt (spot_cmp other l.spot)) (take l.other-index l.spots)) × (l.count ≤ l.other-index)
