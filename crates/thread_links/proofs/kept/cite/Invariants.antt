use Rattle.std.proofs.Common.{◌≡◌, ℕ, List, take}
use Rattle.std.specs.Prelude.{if◌then◌else◌}
use Rattle.lists.specs.Sorted.{insert_by}
use Rattle.lists.specs.Ordered.{values_at}
use Rattle.card_type.specs.Effects.{is_among}
use Rattle.card_type.specs.Spots.{spot_cmp}
use Rattle.thread_links.proofs.kept.cite.Given as goal

abbrev pub invariant-loop-id : goal.invariant-loop-id
invariant-loop-id l =
    (id : List ℕ) → values_at l.cited id
    ≡ (if is_among (take l.id-index l.ids) id then insert_by spot_cmp l.spot (values_at l.fn.cited id) else values_at l.fn.cited id)
