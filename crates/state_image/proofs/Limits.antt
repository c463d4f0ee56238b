-- Sums of weights that end at the greatest 64-bit number.
use Rattle.std.proofs.Common.{◌≡◌, ℕ, ◌+◌, ◌-◌, ◌<◌, ◌≤◌, true, false, arith}
use Rattle.std.specs.Prelude.{nat_le}
use Rattle.std.proofs.lemmas.Bool.Decides.{nat_tests}
use Rattle.card_type.specs.Records.{capped}
use Rattle.mailbox_model.specs.Mailbox.{max_total_weight}

-- a weight that is known by how many bytes were left before and after it
module _ (total weight left rest sum : ℕ) (is : left ≡ weight + rest) (capped_is : sum ≡ capped (total + (left - rest))) where
  pub too_heavy : 268435456 < sum → nat_le (total + weight) max_total_weight ≡ false
  too_heavy lt = grind (arith, nat_tests)

  pub light_enough : sum ≤ 268435456 → nat_le (total + weight) max_total_weight ≡ true
  light_enough le = grind (arith, nat_tests)
