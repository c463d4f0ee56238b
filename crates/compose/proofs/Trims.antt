-- Bytes that neither begin nor end with white space are left as they are.
use Rattle.std.proofs.Common.{◌≡◌, ℕ, ◌-◌, Bool, true, false, not, List, [], ◌∷◌, ◌++◌, length, get_or, take, refl, ap, ◌∙◌, arith}
use Rattle.std.specs.Prelude.{◌&&◌}
use Rattle.std.specs.List.{list_all, suffix_len}
use Rattle.std.proofs.lemmas.Bool.{and_parts, and_from, not-true}
use Rattle.std.proofs.lemmas.List.{take_all}
use Rattle.std.proofs.lemmas.List.Sums.{suffix_len_is}
use Rattle.kit.specs.White.{is_white, trim, trim_start, trim_end}

-- the last of bytes that follow one
abbrev pub last_or : ℕ → List ℕ → ℕ
last_or b [] = b
last_or b (c ∷ cs) = last_or c cs

abbrev pub is_dark : List ℕ → Bool
is_dark [] = false
is_dark (b ∷ bs) = not (is_white b) && not (is_white (last_or b bs))

pub last_at : (b : ℕ) (bs : List ℕ) → get_or (b ∷ bs) (length bs) 0 ≡ last_or b bs
last_at b [] = refl
last_at b (c ∷ cs) = last_at c cs

dark_end : (b : ℕ) (bs : List ℕ) → is_white (last_or b bs) ≡ false → trim_end (b ∷ bs) ≡ b ∷ bs
dark_end b bs dark =
    let xs : List ℕ = b ∷ bs in
    let at : length xs - 1 ≡ length bs = omega arith in
    let none : suffix_len is_white xs ≡ length xs - length xs = suffix_len_is is_white xs (length xs) 0 (omega arith) (λ k le lt. absurd (omega arith)) (λ some. rw at (ap is_white (last_at b bs) ∙ dark)) in
    let whole : length xs - suffix_len is_white xs ≡ length xs = omega (arith, none) in
    ap (λ n. take n xs) whole ∙ take_all (length xs) xs (omega arith)

pub trim-dark : (x : List ℕ) → is_dark x ≡ true → trim (32 ∷ x) ≡ x
trim-dark [] dark = absurd cc
trim-dark (b ∷ bs) dark =
    let parts = and_parts (not (is_white b)) (not (is_white (last_or b bs))) dark in
    let first = not-true (is_white b) parts.0 in
    let start : trim_start (32 ∷ b ∷ bs) ≡ b ∷ bs = rw first refl in
    ap trim_end start ∙ dark_end b bs (not-true (is_white (last_or b bs)) parts.1)

pub last_or-append : (b : ℕ) (bs : List ℕ) (c : ℕ) (cs : List ℕ) → last_or b (bs ++ c ∷ cs) ≡ last_or c cs
last_or-append b [] c cs = refl
last_or-append b (x ∷ xs) c cs = last_or-append x xs c cs

-- what begins as dark bytes and ends as others
pub dark-append : (xs ys : List ℕ) → is_dark xs ≡ true → is_dark ys ≡ true → is_dark (xs ++ ys) ≡ true
dark-append [] ys first last = absurd cc
dark-append (x ∷ xs) [] first last = absurd cc
dark-append (x ∷ xs) (y ∷ ys) first last =
    let begins = and_parts (not (is_white x)) (not (is_white (last_or x xs))) first in
    let ends = and_parts (not (is_white y)) (not (is_white (last_or y ys))) last in
    and_from (not (is_white x)) (not (is_white (last_or x (xs ++ y ∷ ys)))) begins.0 (ap (λ b. not (is_white b)) (last_or-append x xs y ys) ∙ ends.1)

-- also with white space between
pub dark-seam : (xs ys : List ℕ) → is_dark xs ≡ true → is_dark ys ≡ true → is_dark (xs ++ (32 ∷ ys)) ≡ true
dark-seam [] ys first last = absurd cc
dark-seam (x ∷ xs) [] first last = absurd cc
dark-seam (x ∷ xs) (y ∷ ys) first last =
    let begins = and_parts (not (is_white x)) (not (is_white (last_or x xs))) first in
    let ends = and_parts (not (is_white y)) (not (is_white (last_or y ys))) last in
    and_from (not (is_white x)) (not (is_white (last_or x (xs ++ 32 ∷ y ∷ ys)))) begins.0 (ap (λ b. not (is_white b)) (last_or-append x xs 32 (y ∷ ys)) ∙ ends.1)

-- bytes of which none is white space
pub dark_all : (b : ℕ) (bs : List ℕ) → list_all (λ b. not (is_white b)) (b ∷ bs) ≡ true → is_dark (b ∷ bs) ≡ true
dark_all b bs all =
    let parts = and_parts (not (is_white b)) (list_all (λ b. not (is_white b)) bs) all in
    and_from (not (is_white b)) (not (is_white (last_or b bs))) parts.0 (last b bs parts.0 parts.1)
  where
    last : (b : ℕ) (bs : List ℕ) → not (is_white b) ≡ true → list_all (λ b. not (is_white b)) bs ≡ true → not (is_white (last_or b bs)) ≡ true
    last b [] here all = here
    last b (c ∷ cs) here all = let parts = and_parts (not (is_white c)) (list_all (λ b. not (is_white b)) cs) all in last c cs parts.0 parts.1
