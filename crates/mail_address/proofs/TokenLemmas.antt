-- The first token of bytes, by their first byte.
use Rattle.std.proofs.Common.{◌≡◌, ℕ, zero, suc, ◌+◌, ◌<◌, ◌==◌, Bool, false, not, nat_lt, get_or, List, [], ◌∷◌, length, take, drop, Some, None, refl, sym, ap, subst, ◌∙◌, arith, inl, inr, add-one}
use Rattle.std.specs.List.{position, position_or_len}
use Rattle.std.specs.Option.{unwrap_or}
use Rattle.std.proofs.lemmas.Bool.{cases_Bool, ltb-false}
use Rattle.std.proofs.lemmas.List.{take_all, drop_all}
use Rattle.std.proofs.lemmas.List.Sums.{prefix_len-le-length}
use Rattle.mail_address.specs.Tokens.{Token, Atom, Quoted, tokens, tokens_after, ends_atom, quoted_len, unquoted}
use Rattle.mail_address.specs.States.{without_first}

pub skipped : (k : ℕ) (bs : List ℕ) → tokens_after k bs ≡ tokens (drop k bs)
skipped zero bs = refl
skipped (suc k) [] = refl
skipped (suc k) (b ∷ bs) = skipped k bs

without_first-drop : (n : ℕ) (bs : List ℕ) → drop (suc n) bs ≡ without_first (drop n bs)
without_first-drop zero [] = refl
without_first-drop zero (b ∷ bs) = refl
without_first-drop (suc n) [] = refl
without_first-drop (suc n) (b ∷ bs) = without_first-drop n bs

pub tokens-quoted : (bs : List ℕ)
    → tokens (34 ∷ bs) ≡ Quoted (unquoted false (take (quoted_len false bs) bs)) ∷ tokens (without_first (drop (quoted_len false bs) bs))
tokens-quoted bs =
    let len = quoted_len false bs in
    let after : drop (len + 1) bs ≡ without_first (drop len bs) = rw add-one (without_first-drop len bs) in
    ap (λ (ts : List Token). Quoted (unquoted false (take len bs)) ∷ ts) (skipped (len + 1) bs ∙ ap tokens after)

-- a position or the length is the first position that passes, or the length
pub position_or_length : (p : ℕ → Bool) (bytes : List ℕ) → unwrap_or (position p bytes) (length bytes) ≡ position_or_len p bytes
position_or_length p bytes =
    elim (cases_Bool (nat_lt (position_or_len p bytes) (length bytes))) [
      | inl before ↦ rw before refl
      | inr at_end ↦ rw at_end (omega (arith, prefix_len-le-length (λ b. not (p b)) bytes, ltb-false _ _ at_end))
    ]

-- a byte that ends no atom begins none of the other tokens
begins_atom : (b : ℕ) → ends_atom b ≡ false → ((b == 40) ≡ false) × ((b == 34) ≡ false) × ((b == 91) ≡ false)
begins_atom b h = (grind arith, grind arith, grind arith)

pub tokens-atom : (bytes : List ℕ) → 0 < length bytes → ends_atom (get_or bytes 0 0) ≡ false
    → tokens bytes ≡ Atom (take (position_or_len ends_atom bytes) bytes) ∷ tokens (drop (position_or_len ends_atom bytes) bytes)
tokens-atom [] some first = absurd (omega arith)
tokens-atom (b ∷ bs) some first =
    let is = begins_atom b first in
    let len = position_or_len ends_atom bs in
    let more : position_or_len ends_atom (b ∷ bs) ≡ suc len = rw first (omega arith) in
    let here : tokens (b ∷ bs) ≡ Atom (b ∷ take len bs) ∷ tokens_after len bs = rw (is.0, is.1, is.2, first) refl in
    let P : ℕ → Type 0 = λ n. tokens (b ∷ bs) ≡ Atom (take n (b ∷ bs)) ∷ tokens (drop n (b ∷ bs)) in
    subst P (sym more) (here ∙ ap (λ (ts : List Token). Atom (b ∷ take len bs) ∷ ts) (skipped len bs))

abbrev closes : ℕ → Bool
closes b = b == 93

tokens-literal : (bytes : List ℕ) → get_or bytes 0 0 ≡ 91
    → tokens bytes ≡ Atom (take (position_or_len closes bytes + 1) bytes) ∷ tokens (drop (position_or_len closes bytes + 1) bytes)
tokens-literal [] first = absurd (omega arith)
tokens-literal (b ∷ bs) first =
    let len = position_or_len closes bs + 1 in
    let more : position_or_len closes (91 ∷ bs) + 1 ≡ suc len = omega arith in
    let P : ℕ → Type 0 = λ n. tokens (91 ∷ bs) ≡ Atom (take n (91 ∷ bs)) ∷ tokens (drop n (91 ∷ bs)) in
    let Q : ℕ → Type 0 = λ b. tokens (b ∷ bs) ≡ Atom (take (position_or_len closes (b ∷ bs) + 1) (b ∷ bs)) ∷ tokens (drop (position_or_len closes (b ∷ bs) + 1) (b ∷ bs)) in
    subst Q (sym first) (subst P (sym more) (ap (λ (ts : List Token). Atom (91 ∷ take len bs) ∷ ts) (skipped len bs)))

pub literal_closed : (bytes : List ℕ) (at : ℕ) → get_or bytes 0 0 ≡ 91 → Some at ≡ position closes bytes
    → tokens bytes ≡ Atom (take (at + 1) bytes) ∷ tokens (drop (at + 1) bytes)
literal_closed bytes at first is =
    let here : at ≡ position_or_len closes bytes = ap (λ o. unwrap_or o (length bytes)) is ∙ position_or_length closes bytes in
    subst (λ n. tokens bytes ≡ Atom (take (n + 1) bytes) ∷ tokens (drop (n + 1) bytes)) (sym here) (tokens-literal bytes first)

pub literal_open : (bytes : List ℕ) → get_or bytes 0 0 ≡ 91 → None ≡ position closes bytes
    → tokens bytes ≡ Atom (take (length bytes) bytes) ∷ tokens (drop (length bytes) bytes)
literal_open bytes first is =
    let here : length bytes ≡ position_or_len closes bytes = ap (λ o. unwrap_or o (length bytes)) is ∙ position_or_length closes bytes in
    let len = position_or_len closes bytes + 1 in
    let taken : take len bytes ≡ take (length bytes) bytes = take_all len bytes (omega arith) ∙ sym (take_all (length bytes) bytes (omega arith)) in
    let after : drop len bytes ≡ drop (length bytes) bytes = drop_all len bytes (omega arith) ∙ sym (drop_all (length bytes) bytes (omega arith)) in
    tokens-literal bytes first ∙ ap (λ (bs : List ℕ). Atom bs ∷ tokens (drop len bytes)) taken ∙ ap (λ (bs : List ℕ). Atom (take (length bytes) bytes) ∷ tokens bs) after
