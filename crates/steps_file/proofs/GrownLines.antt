-- The ended lines of bytes that grow, and those from the end of a line on.
use Rattle.std.proofs.Common.{◌≡◌, ◌⊎◌, inl, inr, ℕ, zero, suc, ◌+◌, ◌≤◌, true, List, [], ◌∷◌, ◌++◌, length, drop, refl, sym, ap, ◌∙◌, append_assoc, length-append, arith}
use Rattle.std.proofs.lemmas.Bool.{cases_eq, ne_eqb}
use Rattle.std.proofs.Math.Seq.{drop-append_seam}
use Rattle.steps_file.specs.Lines.{ended_lines}
use Rattle.steps_file.specs.Passing.{lf_at, HasNoLf, IsLineAt}
use Rattle.steps_file.specs.Growth.{LinesGrow, LinesGoOn}
use Rattle.steps_file.proofs.EndedLines.{ended_none, ended_first}

-- a line, and what follows it
pub record Cut (bytes : List ℕ) : Type 0 where
  pub raw : List ℕ
  pub rest : List ℕ
  pub one : IsLineAt true raw
  pub whole : bytes ≡ raw ++ rest

cut_after : (b : ℕ) (bs : List ℕ) → (b ≡ 10 → ⊥) → HasNoLf bs ⊎ Cut bs → HasNoLf (b ∷ bs) ⊎ Cut (b ∷ bs)
cut_after b bs other (inl none) = let later : lf_at (b ∷ bs) ≡ 1 + lf_at bs = rw (ne_eqb b 10 other) refl in inl (omega (arith, later, none))
cut_after b bs other (inr c) =
    let later : lf_at (b ∷ c.raw) ≡ 1 + lf_at c.raw = rw (ne_eqb b 10 other) refl in
    inr (record { raw = b ∷ c.raw; rest = c.rest; one = omega (arith, later, c.one); whole = ap (λ (z : List ℕ). b ∷ z) c.whole })

-- there is no LF in bytes, or they begin with a line
pub cut : (bytes : List ℕ) → HasNoLf bytes ⊎ Cut bytes
cut [] = inl refl
cut (b ∷ bs) = elim (cases_eq b 10) [
  | inl lf ↦ inr (record { raw = 10 ∷ []; rest = bs; one = refl; whole = ap (λ (k : ℕ). k ∷ bs) lf })
  | inr other ↦ cut_after b bs other (cut bs)
]

first_of : (bytes : List ℕ) (c : Cut bytes) → ended_lines bytes ≡ c.raw ∷ ended_lines c.rest
first_of bytes c = ap ended_lines c.whole ∙ ended_first c.raw c.rest c.one

grow_to : (n : ℕ) (old more : List ℕ) → length old ≤ n → (later : List (List ℕ)) × (ended_lines (old ++ more) ≡ ended_lines old ++ later)
grow_to zero [] more short = (ended_lines more, refl)
grow_to zero (b ∷ old) more short = absurd (omega arith)
grow_to (suc n) old more short = elim (cut old) [
  | inl none ↦ (ended_lines (old ++ more), ap (λ (z : List (List ℕ)). z ++ ended_lines (old ++ more)) (sym (ended_none old none)))
  | inr c ↦
      let some : length c.raw ≡ lf_at c.raw + 1 = sym c.one in
      let h = grow_to n c.rest more (omega (arith, short, ap length c.whole, length-append c.raw c.rest, some)) in (
        h.0,
        ap ended_lines (ap (λ z. z ++ more) c.whole ∙ append_assoc c.raw c.rest more) ∙ ended_first c.raw (c.rest ++ more) c.one
            ∙ ap (λ (z : List (List ℕ)). c.raw ∷ z) h.1 ∙ ap (λ (z : List (List ℕ)). z ++ h.0) (sym (first_of old c)),
      )
]

pub lines_grow : LinesGrow
lines_grow old more = grow_to (length old) old more (omega arith)

pub lines_go_on : LinesGoOn
lines_go_on bytes raw others e = elim (cut bytes) [
  | inl none ↦ absurd (let f = sym e ∙ ended_none bytes none in cc)
  | inr c ↦
      let f = sym (first_of bytes c) ∙ e in
      let same : c.raw ≡ raw = cc in
      let after : ended_lines c.rest ≡ others = cc in (
        omega (arith, ap length same, ap length c.whole, length-append c.raw c.rest),
        ap (λ (z : List ℕ). ended_lines (drop (length z) bytes)) (sym same) ∙ ap (λ z. ended_lines (drop (length c.raw) z)) c.whole
            ∙ ap ended_lines (drop-append_seam c.raw c.rest) ∙ after,
      )
]
