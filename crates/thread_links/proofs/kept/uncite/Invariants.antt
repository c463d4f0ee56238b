use Rattle.std.proofs.Common.{◌≡◌, ℕ, List, not, take}
use Rattle.std.specs.Prelude.{if◌then◌else◌, filter}
use Rattle.std.specs.Ordering.{eq_by_cmp}
use Rattle.lists.specs.Ordered.{values_at}
use Rattle.card_type.specs.Effects.{is_among}
use Rattle.card_type.specs.Spots.{spot_cmp}
use Rattle.thread_links.proofs.kept.uncite.Given as goal

abbrev pub invariant-loop-id : goal.invariant-loop-id
invariant-loop-id l =
    (id : List ℕ) → values_at l.cited id
    ≡ (if is_among (take l.id-index l.ids) id then filter (λ other. not (eq_by_cmp spot_cmp l.spot other)) (values_at l.fn.cited id) else values_at l.fn.cited id)
