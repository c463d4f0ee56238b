use Rattle.std.proofs.Common.{◌≡◌, ◌+◌, drop}
use Rattle.std.specs.List.{sum}
use Rattle.card_type.specs.Records.{capped}
use Rattle.card_type.proofs.record.total.Given as goal

abbrev pub invariant-loop-weight : goal.invariant-loop-weight
invariant-loop-weight l =
    (capped l.total ≡ l.total) × (capped (l.total + sum (drop l.weight-index l.weights)) ≡ capped (sum l.weights))
