-- The deadline of a uid is renewed: it is dropped, and set anew.
use Rattle.std.proofs.Common.{◌≡◌, refl, sym, ap, ◌∙◌, ℕ, Bool, true, false, not, ◌&&◌, Option, Some, None, List, arith}
use Rattle.std.specs.Prelude.{◌==◌, is_some, if◌then◌else◌, option_map}
use Rattle.std.proofs.lemmas.Bool.{eqb-true}
use Rattle.lists.proofs.Inserts.{filter_none, find-filter, none_found}
use Rattle.timers.specs.Deadlines.{without_uid}
use Rattle.indexes.specs.Kept.{deadline_at}

pub deadline_without : (uid : ℕ) (deadlines : List (ℕ × ℕ)) (other : ℕ)
    → deadline_at (without_uid uid deadlines) other ≡ (if uid == other then None else deadline_at deadlines other)
deadline_without uid deadlines other = by (uid == other) refl
  where
    has : ℕ → ℕ × ℕ → Bool
    has n d = d.1 == n

    by : (b : Bool) → (uid == other) ≡ b → deadline_at (without_uid uid deadlines) other ≡ (if b then None else deadline_at deadlines other)
    by true e =
        let same : uid ≡ other = eqb-true uid other e in
        ap (λ n. deadline_at (without_uid uid deadlines) n) (sym same)
        ∙ ap (option_map (λ (d : ℕ × ℕ). d.0)) (none_found (has uid) (without_uid uid deadlines) (filter_none (has uid) deadlines))
    by false e = ap (option_map (λ (d : ℕ × ℕ). d.0)) (find-filter (has other) (λ d. not (has uid d)) kept deadlines)
      where
        kept : (d : ℕ × ℕ) → has other d ≡ true → not (has uid d) ≡ true
        kept d h = grind (arith, eqb-true d.1 other h)

-- what is set where it is dropped is what the uid has
pub renewed : (uid : ℕ) (deadline : Option ℕ) (deadlines : List (ℕ × ℕ)) (other : ℕ)
    → (if uid == other && is_some deadline then deadline else deadline_at (without_uid uid deadlines) other)
    ≡ (if uid == other then deadline else deadline_at deadlines other)
renewed uid deadline deadlines other =
    ap (λ o. if uid == other && is_some deadline then deadline else o) (deadline_without uid deadlines other)
    ∙ by (uid == other) deadline
  where
    by : (b : Bool) (o : Option ℕ)
        → (if b && is_some o then o else (if b then None else deadline_at deadlines other)) ≡ (if b then o else deadline_at deadlines other)
    by true None = refl
    by true (Some d) = refl
    by false o = refl

-- where it is what each uid is to have
pub renewed_by : (f : ℕ → Option ℕ) (uid other : ℕ) (deadline rest : Option ℕ) → deadline ≡ f uid
    → (if uid == other then deadline else rest) ≡ (if uid == other then f other else rest)
renewed_by f uid other deadline rest is = by (uid == other) refl
  where
    by : (b : Bool) → (uid == other) ≡ b → (if b then deadline else rest) ≡ (if b then f other else rest)
    by true e = is ∙ ap f (eqb-true uid other e)
    by false e = refl
