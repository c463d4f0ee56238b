-- Lemmas on where a text is cut.
use Rattle.std.proofs.Common.{⊎_elim, ◌≡◌, ◌≤◌, ◌<◌, ◌-◌, ◌∙◌, ℕ, zero, suc, true, false, cond, List, length, take, ap, sym, subst, refl, arith}
use Rattle.std.specs.Prelude.{◌==◌, ◌||◌, reverse, slice_index}
use Rattle.std.specs.List.{suffix_len}
use Rattle.std.specs.Str.{IsCharBoundary}
use Rattle.std.specs.Fmt.{is_char_start}
use Rattle.std.specs.Fmt.Cut.{floor_char_boundary}
use Rattle.std.proofs.lemmas.Bool.{cases_lt, eqb-true, le-leb, le-ltb, lt-leb, lt-ltb, or_cases}
use Rattle.std.proofs.lemmas.List.{get_or-reverse, length-take, take_all}
use Rattle.std.proofs.lemmas.List.Sums.{prefix_len_passes, suffix_len-le-length}
use Rattle.std.proofs.lemmas.Str.{IsCharBoundary-before_ascii, IsCharBoundary-end}
use Rattle.chat_card.specs.Texts.{prefix, is_space, trimmed}

-- ---- what is trimmed

-- a space is a character of one byte
space_is_ascii : (b : ℕ) → is_space b ≡ true → b < 128
space_is_ascii b h = ⊎_elim
    (λ white. ⊎_elim
    (λ blank. ⊎_elim (λ sp. omega (arith, eqb-true b 32 sp)) (λ tab. omega (arith, eqb-true b 9 tab)) (or_cases (b == 32) (b == 9) blank))
    (λ cr. omega (arith, eqb-true b 13 cr)) (or_cases (b == 32 || b == 9) (b == 13) white))
    (λ lf. omega (arith, eqb-true b 10 lf)) (or_cases (b == 32 || b == 9 || b == 13) (b == 10) h)

-- What is trimmed is followed by a space, or by nothing.
pub trimmed-boundary : (text : List ℕ) → IsCharBoundary text (length (trimmed text))
trimmed-boundary text =
    let left = suffix_len is_space text in
    let within = suffix_len-le-length is_space text in
    let len : length (trimmed text) ≡ length text - left = length-take (length text - left) text ∙ omega arith in
    let here : 0 < left → is_space (slice_index text (length text - left)) ≡ true =
    λ some. ap (λ i. is_space (slice_index text i)) (omega (arith, within))
    ∙ ap is_space (sym (get_or-reverse text (left - 1) 0 (omega (arith, within, some))))
    ∙ prefix_len_passes is_space (reverse text) (left - 1) 0 (omega (arith, some)) in
    subst (IsCharBoundary text) (sym len) (⊎_elim
    (λ some. IsCharBoundary-before_ascii text (length text - left) (omega (arith, within, some)) (space_is_ascii _ (here some)))
    (λ none. subst (IsCharBoundary text) (omega (arith, none)) (IsCharBoundary-end text))
    (cases_lt 0 left))

-- ---- what is cut

-- a boundary, and the last up to an offset
abbrev pub IsLastBoundary : List ℕ → ℕ → ℕ → Type 0
IsLastBoundary text at kept =
    (kept ≤ at) × IsCharBoundary text kept × ((i : ℕ) → kept < i → i ≤ at → ¬ (IsCharBoundary text i))

-- what a boundary says of a byte decides whether a character begins there
starts : (b : ℕ) → (128 ≤ b → 192 ≤ b) → is_char_start b ≡ true
starts b h = ⊎_elim (λ low. rw (lt-ltb b 128 low) refl) (λ high. rw (le-ltb b 128 high, le-leb 192 b (h high)) refl) (cases_lt b 128)

continues : (b : ℕ) → ¬ (128 ≤ b → 192 ≤ b) → is_char_start b ≡ false
continues b h = ⊎_elim (λ low. absurd (h (λ high. omega arith)))
    (λ high. ⊎_elim (λ mid. rw (le-ltb b 128 high, lt-leb 192 b mid) refl) (λ top. absurd (h (λ _. top))) (cases_lt b 192)) (cases_lt b 128)

-- the last boundary up to an offset in a text is the one that std names
last_boundary-is : (text : List ℕ) (at kept : ℕ) → at < length text → IsLastBoundary text at kept → floor_char_boundary text at ≡ kept
unfolding floor_char_boundary
last_boundary-is text zero kept within last = omega (arith, last.0)
last_boundary-is text (suc at) kept within last = ⊎_elim
    (λ below. ap (λ t. cond t (suc at) (floor_char_boundary text at))
    (continues _ (λ h. last.2 (suc at) below (omega arith) (omega (arith, within), λ _. h)))
    ∙ last_boundary-is text at kept (omega (arith, within)) (omega (arith, below), last.1, λ i p q. last.2 i p (omega (arith, q))))
    (λ above. let same : kept ≡ suc at = omega (arith, above, last.0) in
    ap (λ t. cond t (suc at) (floor_char_boundary text at)) (starts _ ((subst (IsCharBoundary text) same last.1).1 within)) ∙ sym same)
    (cases_lt kept (suc at))

pub prefix-is : (limit : ℕ) (text : List ℕ) (kept : ℕ) → IsLastBoundary text limit kept → take kept text ≡ prefix limit text
prefix-is limit text kept last = ⊎_elim
    (λ long. rw (lt-leb (length text) limit long) (ap (λ n. take n text) (sym (last_boundary-is text limit kept long last))))
    (λ fits. rw (le-leb (length text) limit fits) (take_all kept text (⊎_elim
    (λ short. absurd (last.2 (length text) short fits (IsCharBoundary-end text)))
    (λ all. all)
    (cases_lt kept (length text)))))
    (cases_lt limit (length text))
