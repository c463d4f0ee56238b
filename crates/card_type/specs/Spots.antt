-- Mail order.
use Rattle.std.specs.Prelude.{Bool, ◌==◌}
use Rattle.std.specs.declared.cmp.Ordering.{Ordering}
use Rattle.std.specs.Ordering.{nat_cmp, on, then_cmp, eq_of_both}
use Rattle.std.specs.Cmp.Lexicographic.{slice_cmp, pointwise}
use Rattle.card_type.specs.declared.spot.Spot.{Spot}

-- by date, then by id, then by uid
abbrev pub spot_cmp : Spot → Spot → Ordering
spot_cmp = then_cmp (on (λ s. s.date) nat_cmp) (then_cmp (on (λ s. s.id) (slice_cmp nat_cmp)) (on (λ s. s.uid) nat_cmp))

abbrev pub spot_eq : Spot → Spot → Bool
spot_eq = eq_of_both (on (λ s. s.date) ◌==◌) (eq_of_both (on (λ s. s.id) (pointwise ◌==◌)) (on (λ s. s.uid) ◌==◌))
