-- An mbox of one mail gives that mail, where no line of it begins as a separator, quoted or not.
use Rattle.std.proofs.Common.{◌≡◌, ℕ, ◌==◌, Bool, true, false, not, ◌&&◌, List, [], ◌∷◌, ◌++◌, drop, map, refl, ap, ◌∙◌}
use Rattle.std.specs.Prelude.{codes, flat_map, nat_lt, if◌then◌else◌}
use Rattle.std.specs.List.{concat, list_all, onto_first, prefix_len}
use Rattle.std.proofs.lemmas.Bool.{and_parts, not-true}
use Rattle.kit.specs.Lines.{raw_lines}
use Rattle.kit.proofs.LineLemmas.{concat-raw_lines}
use Rattle.mboxrd.specs.Mails.{begins_with_from, groups, is_empty_line, mails_after_first, mails_from, unquoted, without_closing_line}
use Rattle.compose.proofs.FieldsBack.{raw_lines-line}
use Rattle.compose.proofs.Printings.{all_both}

-- no `From ` after any quote marks
abbrev pub is_free : List ℕ → Bool
is_free raw = not (begins_with_from (drop (prefix_len (λ b. b == 62) raw) raw)) && not (begins_with_from raw)

abbrev pub are_free : List (List ℕ) → Bool
are_free ls = list_all is_free ls

free_unquoted : (raw : List ℕ) → is_free raw ≡ true → unquoted raw ≡ raw
free_unquoted raw h =
    let parts = and_parts (not (begins_with_from (drop (prefix_len (λ b. b == 62) raw) raw))) (not (begins_with_from raw)) h in
    ap (λ v. if nat_lt 0 (prefix_len (λ b. b == 62) raw) && v then drop 1 raw else raw) (not-true _ parts.0)
    ∙ go (nat_lt 0 (prefix_len (λ b. b == 62) raw))
  where
    go : (b : Bool) → (if b && false then drop 1 raw else raw) ≡ raw
    go true = refl
    go false = refl

all_unquoted : (ls : List (List ℕ)) → are_free ls ≡ true → flat_map unquoted ls ≡ concat ls
all_unquoted [] all = refl
all_unquoted (l ∷ ls) all =
    let parts = and_parts (is_free l) (are_free ls) all in
    rw (free_unquoted l parts.0, all_unquoted ls parts.1) refl

-- free lines are one group
one_group : (may : Bool) (ls : List (List ℕ)) → are_free ls ≡ true → groups may ls ≡ ls ∷ []
one_group may [] all = refl
one_group may (l ∷ ls) all =
    let parts = and_parts (is_free l) (are_free ls) all in
    let free = and_parts (not (begins_with_from (drop (prefix_len (λ b. b == 62) l) l))) (not (begins_with_from l)) parts.0 in
    let rest = onto_first l (groups (is_empty_line l) ls) in
    ap (λ v. if may && v then [] ∷ rest else rest) (not-true (begins_with_from l) free.1)
    ∙ go may rest
    ∙ ap (onto_first l) (one_group (is_empty_line l) ls parts.1)
  where
    go : (b : Bool) (rest : List (List (List ℕ))) → (if b && false then [] ∷ rest else rest) ≡ rest
    go true rest = refl
    go false rest = refl

-- an empty line at the end closes a mail
closed : (ls : List (List ℕ)) → without_closing_line (ls ++ ((10 ∷ []) ∷ [])) ≡ ls
closed [] = refl
closed (l ∷ []) = refl
closed (l ∷ m ∷ ls) = ap (λ (xs : List (List ℕ)). l ∷ xs) (closed (m ∷ ls))

-- a text of whole lines
pub record IsWhole (bytes : List ℕ) : Type 0 where
  pub more : (rest : List ℕ) → raw_lines (bytes ++ rest) ≡ raw_lines bytes ++ raw_lines rest

-- the separator line, the mail, and an empty line
pub mails_from-one : (mail : List ℕ) → IsWhole mail → are_free (raw_lines mail) ≡ true
    → map (λ m. m.bytes) (mails_from 0 (codes "From -\n" ++ (mail ++ (10 ∷ [])))) ≡ mail ∷ []
mails_from-one mail whole free =
    let body = raw_lines mail ++ ((10 ∷ []) ∷ []) in
    let lines : raw_lines (codes "From -\n" ++ (mail ++ (10 ∷ []))) ≡ codes "From -\n" ∷ body =
    raw_lines-line (codes "From -") (mail ++ (10 ∷ [])) refl ∙ ap (λ (ls : List (List ℕ)). codes "From -\n" ∷ ls) (whole.more (10 ∷ [])) in
    let groups_are : groups true (codes "From -\n" ∷ body) ≡ [] ∷ (codes "From -\n" ∷ body) ∷ [] =
    ap (λ (gs : List (List (List ℕ))). [] ∷ onto_first (codes "From -\n") gs) (one_group false body (all_both is_free (raw_lines mail) ((10 ∷ []) ∷ []) free refl)) in
    ap (λ ls. map (λ m. m.bytes) (mails_after_first 0 (groups true ls))) lines
    ∙ ap (λ gs. map (λ m. m.bytes) (mails_after_first 0 gs)) groups_are
    ∙ ap (λ (bytes : List ℕ). bytes ∷ []) (ap (λ ls. flat_map unquoted ls) (closed (raw_lines mail)) ∙ all_unquoted (raw_lines mail) free ∙ concat-raw_lines mail)
