-- Which bytes are symbols, and runs of them.
use Rattle.std.proofs.Common.{◌≡◌, ◌≢◌, ℕ, suc, ◌+◌, ◌<◌, ◌==◌, ◌||◌, not, Bool, true, false, get_or, List, [], ◌∷◌, ◌++◌, length, take, drop, map, Some, None, refl, subst, sym, ap, ◌∙◌, arith, inl, inr}
use Rattle.std.specs.Prelude.{filter, position}
use Rattle.std.specs.Char.{is_ascii_alphanumeric}
use Rattle.std.specs.Int.{from_bool}
use Rattle.std.specs.List.{count_by, position_or_len, range_with_len}
use Rattle.std.proofs.lemmas.Bool.{cases_Bool, cases_lt, le-ltb, lt-ltb, ne_eqb, not-true}
use Rattle.std.proofs.lemmas.List.{drop_all, drop_more, take_all}
use Rattle.std.proofs.lemmas.List.FromFn.{get_or-map-range_with_len}
use Rattle.std.proofs.lemmas.List.Sums.{count_by_more_no, count_by_more_yes, passes_at_first, position_or_len_is}
use Rattle.memchr.specs.Find.{IsFirstByte, is_byte}
use Rattle.transfer_code.specs.Base64.{before_padding, is_symbol}

-- ---- the test of a byte

abbrev by_ranges : ℕ → Bool
by_ranges b = b == 43 || b == 47 || is_ascii_alphanumeric b

are_symbols : map by_ranges (range_with_len 0 256) ≡ map is_symbol (range_with_len 0 256)
are_symbols = refl

is_symbol-ranges : (b : ℕ) → b < 256 → by_ranges b ≡ is_symbol b
is_symbol-ranges b lt =
    sym (get_or-map-range_with_len by_ranges 0 256 b b false lt (omega arith))
    ∙ ap (λ bs. get_or bs b false) are_symbols
    ∙ get_or-map-range_with_len is_symbol 0 256 b b false lt (omega arith)

pub is_symbol-letter : (b : ℕ) → b < 256 → b ≢ 43 → b ≢ 47 → is_ascii_alphanumeric b ≡ is_symbol b
is_symbol-letter b lt plus slash = sym (rw (ne_eqb b 43 plus, ne_eqb b 47 slash) refl) ∙ is_symbol-ranges b lt

-- ---- what precedes the first `=`

not-true-is : (b : Bool) → ¬ (b ≡ true) → b ≡ false
not-true-is true h = absurd (h refl)
not-true-is false h = refl

-- where a search for a `=` finds it
pub padding-found : (bytes : List ℕ) (at : ℕ) → IsFirstByte (is_byte 61) bytes (Some at) → take at bytes ≡ before_padding bytes
padding-found bytes at found =
    ap (λ n. take n bytes) (sym (position_or_len_is (λ b. b == 61) bytes at 0 (omega (arith, found.0.high))
    (λ k lt. not-true-is (get_or bytes k 0 == 61) (found.0.before k (omega arith) lt)) (λ lt. found.1)))

pub padding-missing : (bytes : List ℕ) → IsFirstByte (is_byte 61) bytes None → bytes ≡ before_padding bytes
padding-missing bytes none =
    sym (take_all (length bytes) bytes (omega arith)) ∙ ap (λ n. take n bytes) (sym (position_or_len_is (λ b. b == 61) bytes (length bytes) 0 (omega arith)
    (λ k lt. not-true-is (get_or bytes k 0 == 61) (none k (omega arith) lt)) (λ lt. absurd (omega arith))))

-- ---- counting

-- one byte more
pub count-more : (bytes : List ℕ) (i count more : ℕ) (is : Bool) → i < length bytes → count ≡ count_by is_symbol (take i bytes)
    → is ≡ is_symbol (get_or bytes i 0) → more ≡ from_bool is → count + more ≡ count_by is_symbol (take (i + 1) bytes)
count-more bytes i count more true lt so_far passes one = omega (arith, so_far, one, count_by_more_yes is_symbol bytes i 0 lt (sym passes))
count-more bytes i count more false lt so_far fails none = omega (arith, so_far, none, count_by_more_no is_symbol bytes i 0 lt (sym fails))

-- ---- the first run

abbrev run_len : List ℕ → ℕ
run_len bytes = position_or_len (λ b. not (is_symbol b)) bytes

after_run : (bs : List ℕ) → filter is_symbol bs ≡ take (run_len bs) bs ++ filter is_symbol (drop (run_len bs) bs)
after_run [] = refl
after_run (b ∷ bs) = elim (cases_Bool (is_symbol b)) [
  | inl passes ↦ (
      let later : 1 + run_len bs ≡ suc (run_len bs) = omega arith in
      rw (passes, later) (ap (λ (s : List ℕ). b ∷ s) (after_run bs)))
  | inr fails ↦ (
      let none : run_len (b ∷ bs) ≡ 0 = rw fails refl in
      subst (λ n. filter is_symbol (b ∷ bs) ≡ take n (b ∷ bs) ++ filter is_symbol (drop n (b ∷ bs))) (sym none) refl)
]

-- all bytes are symbols
pub split-none : (bs : List ℕ) → None ≡ position (λ b. not (is_symbol b)) bs → filter is_symbol bs ≡ bs ++ []
split-none bs none = elim (cases_lt (run_len bs) (length bs)) [
  | inl lt ↦ (let other : None ≡ Some (run_len bs) = rw (lt-ltb _ _ lt) at none in absurd cc)
  | inr le ↦ after_run bs ∙ rw (take_all (run_len bs) bs le, drop_all (run_len bs) bs le) refl
]

-- a byte that is none is skipped
pub split-some : (bs : List ℕ) (at : ℕ) → Some at ≡ position (λ b. not (is_symbol b)) bs
    → filter is_symbol bs ≡ take at bs ++ filter is_symbol (drop (at + 1) bs)
split-some bs at found = elim (cases_lt (run_len bs) (length bs)) [
  | inl lt ↦ (
      let same : Some at ≡ Some (run_len bs) = rw (lt-ltb _ _ lt) at found in
      let is : run_len bs ≡ at = cc in
      let fails = not-true (is_symbol (get_or bs (run_len bs) 0)) (passes_at_first (λ b. not (is_symbol b)) bs 0 lt) in
      let skipped : filter is_symbol (drop (run_len bs) bs) ≡ filter is_symbol (drop (run_len bs + 1) bs) =
      ap (filter is_symbol) (drop_more bs (run_len bs) 0 lt) ∙ rw fails refl in
      subst (λ n. filter is_symbol bs ≡ take n bs ++ filter is_symbol (drop (n + 1) bs)) is
      (after_run bs ∙ ap (λ (s : List ℕ). take (run_len bs) bs ++ s) skipped))
  | inr le ↦ (let other : Some at ≡ None = rw (le-ltb _ _ le) at found in absurd cc)
]
