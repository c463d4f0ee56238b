-- The first raw line of bytes, and the bytes after it.
use Rattle.std.proofs.Common.{◌≡◌, ℕ, suc, ◌+◌, ◌<◌, true, false, ◌==◌, get_or, List, [], ◌∷◌, ◌++◌, length, take, drop, Some, None, refl, sym, ◌∙◌, arith, inl, inr}
use Rattle.std.specs.List.{position_or_len, before_first, after_first}
use Rattle.std.proofs.lemmas.Bool.{cases_Bool, cases_eq, false≢true, ne_eqb}
use Rattle.std.proofs.lemmas.List.Sums.{position_or_len_is}
use Rattle.memchr.specs.Find.{IsFirstByte, is_byte}
use Rattle.kit.specs.Lines.{put_before, raw_lines}

-- where the first LF is, or the length where there is none
abbrev pub lf_at : List ℕ → ℕ
lf_at bytes = position_or_len (λ b. b == 10) bytes

-- ---- the first line

put_before-lf : (b : ℕ) (ls : List (List ℕ)) → (b == 10) ≡ true → put_before b ls ≡ (b ∷ []) ∷ ls
put_before-lf b [] is_lf = refl
put_before-lf b (l ∷ ls) is_lf = rw is_lf refl

-- an LF ends the first line
pub raw_lines-ended : (bytes : List ℕ) (at : ℕ) → lf_at bytes ≡ at → at < length bytes
    → raw_lines bytes ≡ take (at + 1) bytes ∷ raw_lines (drop (at + 1) bytes)
raw_lines-ended [] at is lt = absurd (omega arith)
raw_lines-ended (b ∷ bs) at is lt = elim (cases_Bool (b == 10)) [
  | inl lf ↦ (
      let first : at ≡ 0 = sym is ∙ rw lf refl in
      rw first (put_before-lf b (raw_lines bs) lf))
  | inr other ↦ (
      let later : at ≡ suc (lf_at bs) = sym is ∙ rw other (omega arith) in
      let next : suc (lf_at bs) + 1 ≡ suc (lf_at bs + 1) = omega arith in
      rw (later, next, raw_lines-ended bs (lf_at bs) refl (omega (arith, later)), other) refl)
]

-- where there is no LF, all bytes are one line
pub raw_lines-open : (b : ℕ) (bs : List ℕ) → lf_at (b ∷ bs) ≡ length (b ∷ bs) → raw_lines (b ∷ bs) ≡ (b ∷ bs) ∷ []
raw_lines-open b [] none = refl
raw_lines-open b (c ∷ bs) none = elim (cases_Bool (b == 10)) [
  | inl lf ↦ (
      let first : 0 ≡ length (b ∷ c ∷ bs) = sym (rw lf refl) ∙ none in
      absurd (omega (arith, first)))
  | inr other ↦ (
      let later : 1 + lf_at (c ∷ bs) ≡ length (b ∷ c ∷ bs) = sym (rw other refl) ∙ none in
      rw (raw_lines-open c bs (omega (arith, later)), other) refl)
]

-- where a search for an LF finds it
pub lf_found : (bytes : List ℕ) (at : ℕ) → IsFirstByte (is_byte 10) bytes (Some at) → lf_at bytes ≡ at
lf_found bytes at found =
    position_or_len_is (λ b. b == 10) bytes at 0 (omega (arith, found.0.high))
    (λ k lt. elim (cases_Bool (get_or bytes k 0 == 10)) [ inl is ↦ absurd (found.0.before k (omega arith) lt is) | inr other ↦ other ]) (λ lt. found.1)

pub lf_missing : (bytes : List ℕ) → IsFirstByte (is_byte 10) bytes None → lf_at bytes ≡ length bytes
lf_missing bytes none =
    position_or_len_is (λ b. b == 10) bytes (length bytes) 0 (omega arith)
    (λ k lt. elim (cases_Bool (get_or bytes k 0 == 10)) [ inl is ↦ absurd (none k (omega arith) lt is) | inr other ↦ other ]) (λ lt. absurd (omega arith))

pub raw_lines-whole : (bytes : List ℕ) → false ≡ (length bytes == 0) → lf_at bytes ≡ length bytes → raw_lines bytes ≡ bytes ∷ []
raw_lines-whole [] some none = absurd (false≢true some)
raw_lines-whole (b ∷ bs) some none = raw_lines-open b bs none

-- the first line by the bytes before its LF, and those after it
pub raw_lines-before : (bytes : List ℕ) → lf_at bytes < length bytes
    → raw_lines bytes ≡ (before_first (λ b. b == 10) bytes ++ 10 ∷ []) ∷ raw_lines (after_first (λ b. b == 10) bytes)
raw_lines-before [] lt = absurd (omega arith)
raw_lines-before (b ∷ bs) lt = elim (cases_eq b 10) [
  | inl lf ↦ rw lf (put_before-lf 10 (raw_lines bs) refl)
  | inr other ↦ (
      let not_lf = ne_eqb b 10 other in
      let later : 1 + lf_at bs ≡ suc (lf_at bs) = omega arith in
      let next : suc (lf_at bs) + 1 ≡ suc (lf_at bs + 1) = omega arith in
      let inside : lf_at bs < length bs = omega (arith, rw not_lf at lt) in
      rw (not_lf, later, next, raw_lines-before bs inside, not_lf) refl)
]
