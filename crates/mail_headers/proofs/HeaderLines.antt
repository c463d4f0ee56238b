-- The lines of a header, one after the other.
use Rattle.std.proofs.Common.{◌≡◌, ℕ, suc, ◌+◌, not, true, false, List, [], ◌∷◌, ◌++◌, length, map, refl, ◌∙◌, arith, length-append}
use Rattle.std.proofs.lemmas.List.Sums.{take_while-cons}
use Rattle.kit.specs.Lines.{content}
use Rattle.mail_headers.specs.Headers.{is_empty, header_lines, header_len}

-- a line that is not empty is of the header
pub header_lines-filled : (l : List ℕ) (ls : List (List ℕ)) → is_empty (content l) ≡ false → header_lines (l ∷ ls) ≡ content l ∷ header_lines ls
header_lines-filled l ls filled = take_while-cons (λ line. not (is_empty line)) (content l) (map content ls) ∙ rw filled refl

pub header_len-filled : (l : List ℕ) (ls : List (List ℕ)) → is_empty (content l) ≡ false → header_len (l ∷ ls) ≡ length l + header_len ls
header_len-filled l ls filled =
    let more : suc (length (header_lines ls)) + 1 ≡ suc (length (header_lines ls) + 1) = omega arith in
    rw (header_lines-filled l ls filled, more) (length-append l _)

-- an empty one ends it
pub header_lines-empty : (l : List ℕ) (ls : List (List ℕ)) → is_empty (content l) ≡ true → header_lines (l ∷ ls) ≡ []
header_lines-empty l ls empty = take_while-cons (λ line. not (is_empty line)) (content l) (map content ls) ∙ rw empty refl

pub header_len-empty : (l : List ℕ) (ls : List (List ℕ)) → is_empty (content l) ≡ true → header_len (l ∷ ls) ≡ length l
header_len-empty l ls empty =
    let alone : length (l ++ []) ≡ length l = omega (arith, length-append l []) in
    rw (header_lines-empty l ls empty) alone
