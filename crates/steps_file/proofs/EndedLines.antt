-- The ended lines of bytes, by their first LF (10).
use Rattle.std.proofs.Common.{◌≡◌, ℕ, suc, ◌+◌, ◌-◌, ◌<◌, true, false, ◌==◌, List, [], ◌∷◌, ◌++◌, length, take, drop, refl, sym, ap, ◌∙◌, arith, length-append, inl, inr}
use Rattle.std.proofs.lemmas.Bool.{cases_Bool, cases_eq, ne_eqb}
use Rattle.std.proofs.lemmas.Bool.Decides.{Decides-eqb}
use Rattle.std.proofs.lemmas.Slice.Eq.{ends_is}
use Rattle.std.proofs.Math.Seq.{drop-append_seam, take-append_seam}
use Rattle.kit.specs.Lines.{raw_lines}
use Rattle.kit.proofs.RawLines.{raw_lines-ended, raw_lines-open}
use Rattle.steps_file.specs.Lines.{is_ended, ended_lines}
use Rattle.steps_file.specs.Passing.{lf_at, HasNoLf, IsLineAt}

-- ---- where the first LF is

-- after bytes without one
pub lf_on : (p q : List ℕ) → HasNoLf p → lf_at (p ++ q) ≡ length p + lf_at q
lf_on [] q none = omega arith
lf_on (b ∷ p) q none = elim (cases_Bool (b == 10)) [
  | inl lf ↦ absurd (let first : lf_at (b ∷ p) ≡ 0 = rw lf refl in omega (arith, first, none))
  | inr other ↦ (
      let later : lf_at (b ∷ p) ≡ 1 + lf_at p = rw other refl in
      rw other (omega (arith, lf_on p q (omega (arith, later, none)))))
]

-- bytes that have one, whatever follows them
pub lf_stays : (p q : List ℕ) → lf_at p < length p → lf_at (p ++ q) ≡ lf_at p
lf_stays [] q some = absurd (omega arith)
lf_stays (b ∷ p) q some = elim (cases_Bool (b == 10)) [
  | inl lf ↦ rw lf refl
  | inr other ↦ rw other (ap (λ k. 1 + k) (lf_stays p q (omega (arith, rw other at some))))
]

-- up to the first one
pub lf_last : (bytes : List ℕ) (at : ℕ) → lf_at bytes ≡ at → at < length bytes → IsLineAt true (take (at + 1) bytes)
lf_last [] at is some = absurd (omega arith)
lf_last (b ∷ bytes) at is some = elim (cases_Bool (b == 10)) [
  | inl lf ↦ (
      let first : at ≡ 0 = sym is ∙ rw lf refl in
      rw (first, lf) refl)
  | inr other ↦ (
      let later : at ≡ suc (lf_at bytes) = sym is ∙ rw other (omega arith) in
      let next : suc (lf_at bytes) + 1 ≡ suc (lf_at bytes + 1) = omega arith in
      rw (later, next, other) (omega (arith, lf_last bytes (lf_at bytes) refl (omega (arith, later)))))
]

-- bytes that end with the first one, after bytes without one
pub lf_ends : (p q : List ℕ) → HasNoLf p → IsLineAt true q → IsLineAt true (p ++ q)
lf_ends p q none one = omega (arith, lf_on p q none, one, length-append p q)

pub lf_nowhere : (p q : List ℕ) → HasNoLf p → HasNoLf q → HasNoLf (p ++ q)
lf_nowhere p q none after = omega (arith, lf_on p q none, after, length-append p q)

-- ---- whether one ends a line

line_ends : (raw : List ℕ) → IsLineAt true raw → (line : List ℕ) × (raw ≡ line ++ (10 ∷ []))
line_ends [] one = absurd (omega (arith, one))
line_ends (b ∷ []) one = elim (cases_eq b 10) [
  | inl lf ↦ ([], ap (λ c. c ∷ []) lf)
  | inr other ↦ absurd (let none : 2 ≡ 1 = sym (rw (ne_eqb b 10 other) refl) ∙ one in omega (arith, none))
]
line_ends (b ∷ c ∷ raw) one = elim (cases_Bool (b == 10)) [
  | inl lf ↦ absurd (let first : lf_at (b ∷ c ∷ raw) ≡ 0 = rw lf refl in omega (arith, first, one))
  | inr other ↦ (
      let later : lf_at (b ∷ c ∷ raw) ≡ 1 + lf_at (c ∷ raw) = rw other refl in
      let e = line_ends (c ∷ raw) (omega (arith, later, one)) in
      (b ∷ e.0, ap (λ (l : List ℕ). b ∷ l) e.1))
]

ended : (raw : List ℕ) → IsLineAt true raw → is_ended raw ≡ true
ended raw one =
    let e = line_ends raw one in
    (ends_is Decides-eqb raw (10 ∷ []) _ refl).1 e.0 e.1

lf_inside : (line rest : List ℕ) → lf_at (line ++ 10 ∷ rest) < length (line ++ 10 ∷ rest)
lf_inside [] rest = omega arith
lf_inside (b ∷ line) rest = elim (cases_Bool (b == 10)) [
  | inl lf ↦ rw lf (omega arith)
  | inr other ↦ rw other (omega (arith, lf_inside line rest))
]

open_line : (raw : List ℕ) → HasNoLf raw → is_ended raw ≡ false
open_line raw none = elim (cases_Bool (is_ended raw)) [
  | inl ends ↦ (
      let cut = (ends_is Decides-eqb raw (10 ∷ []) _ refl).0 ends in
      absurd (omega (arith, none, ap lf_at cut, ap length cut, lf_inside (take (length raw - 1) raw) [])))
  | inr other ↦ other
]

-- ---- the ended lines

pub ended_none : (bytes : List ℕ) → HasNoLf bytes → ended_lines bytes ≡ []
ended_none [] none = refl
ended_none (b ∷ bytes) none = rw (raw_lines-open b bytes none, open_line (b ∷ bytes) none) refl

pub ended_first : (raw rest : List ℕ) → IsLineAt true raw → ended_lines (raw ++ rest) ≡ raw ∷ ended_lines rest
ended_first raw rest one =
    let len : lf_at raw + 1 ≡ length raw = one in
    let at : lf_at (raw ++ rest) ≡ lf_at raw = lf_stays raw rest (omega (arith, len)) in
    let cut : take (lf_at raw + 1) (raw ++ rest) ≡ raw = ap (λ n. take n (raw ++ rest)) len ∙ take-append_seam raw rest in
    let left : drop (lf_at raw + 1) (raw ++ rest) ≡ rest = ap (λ n. drop n (raw ++ rest)) len ∙ drop-append_seam raw rest in
    let lines : raw_lines (raw ++ rest) ≡ raw ∷ raw_lines rest = raw_lines-ended (raw ++ rest) (lf_at raw) at (omega (arith, len, length-append raw rest))
    ∙ ap (λ l. l ∷ raw_lines (drop (lf_at raw + 1) (raw ++ rest))) cut ∙ ap (λ z. raw ∷ raw_lines z) left in
    rw (lines, ended raw one) refl
