-- The orders of keys and of spots: total, and what compares alike is one. So either may be the key of a map.
use Rattle.std.proofs.Common.{ℕ, List, sym, ap, ◌∙◌}
use Rattle.std.specs.declared.cmp.Ordering.{Ordering}
use Rattle.std.specs.Ordering.{nat_cmp, on, then_cmp}
use Rattle.std.specs.Cmp.{IsTotalOrder}
use Rattle.std.specs.Cmp.Lexicographic.{slice_cmp}
use Rattle.std.specs.FinMap.{IsAntisymmetric}
use Rattle.std.proofs.lemmas.Cmp.{on_total, then_total, nat_cmp_total, nat_list_cmp_total}
use Rattle.std.proofs.lemmas.Map.Lookups.{exact_pairs, exact_unsigned, exact_bytes}
use Rattle.card_type.specs.declared.spot.Spot.{Spot}
use Rattle.card_type.specs.Keys.{key_rank, key_bytes, key_cmp, key_at, key_at-parts}
use Rattle.card_type.specs.Spots.{spot_cmp}

pub keys_total : IsTotalOrder key_cmp
keys_total = then_total (on_total key_rank nat_cmp_total) (on_total key_bytes nat_list_cmp_total)

pub keys_exact : IsAntisymmetric key_cmp
keys_exact a b alike =
    let pairs = exact_pairs nat_cmp (slice_cmp nat_cmp) exact_unsigned exact_bytes (key_rank a, key_bytes a) (key_rank b, key_bytes b) alike in
    sym (key_at-parts a) ∙ ap (λ (p : ℕ × List ℕ). key_at p.0 p.1) pairs ∙ key_at-parts b

pub spots_total : IsTotalOrder spot_cmp
spots_total =
    then_total (on_total (λ (s : Spot). s.date) nat_cmp_total)
    (then_total (on_total (λ (s : Spot). s.id) nat_list_cmp_total) (on_total (λ (s : Spot). s.uid) nat_cmp_total))

-- ids and uids as pairs
abbrev pair_cmp : List ℕ × ℕ → List ℕ × ℕ → Ordering
pair_cmp = then_cmp (on (λ p. p.0) (slice_cmp nat_cmp)) (on (λ p. p.1) nat_cmp)

pub spots_exact : IsAntisymmetric spot_cmp
spots_exact a b alike =
    let pairs = exact_pairs nat_cmp pair_cmp exact_unsigned (exact_pairs (slice_cmp nat_cmp) nat_cmp exact_bytes exact_unsigned)
    (a.date, (a.id, a.uid)) (b.date, (b.id, b.uid)) alike in
    ap (λ (p : ℕ × (List ℕ × ℕ)). record { date = p.0; id = p.1.0; uid = p.1.1 }) pairs
