-- Deadlines: moments, each with the uid of the mail that expires then.
use Rattle.std.specs.Prelude.{◌≡◌, ℕ, not, ◌==◌, nat_eq, Some, List, filter}
use Rattle.std.specs.List.{AllByRecursion}
use Rattle.std.specs.declared.cmp.Ordering.{Ordering}
use Rattle.std.specs.Map.{lookup}
use Rattle.std.specs.Ordering.{nat_cmp, on, then_cmp}
use Rattle.lists.specs.Sorted.{insert_by}

-- by moment, then by uid
abbrev pub deadline_cmp : ℕ × ℕ → ℕ × ℕ → Ordering
deadline_cmp = then_cmp (on (λ p. p.0) nat_cmp) (on (λ p. p.1) nat_cmp)

abbrev pub without_uid : ℕ → List (ℕ × ℕ) → List (ℕ × ℕ)
without_uid uid deadlines = filter (λ p. not (p.1 == uid)) deadlines

-- in place of the one that the uid has
abbrev pub with_deadline : ℕ → ℕ → List (ℕ × ℕ) → List (ℕ × ℕ)
with_deadline expiry uid deadlines = insert_by deadline_cmp (expiry, uid) (without_uid uid deadlines)

-- the map has each of them under its uid
abbrev pub AreKnown : List (ℕ × ℕ) → List (ℕ × ℕ) → Type 0
AreKnown expiries deadlines = AllByRecursion (λ p. lookup (nat_eq p.1) expiries ≡ Some p.0) deadlines
