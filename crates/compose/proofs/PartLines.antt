-- Lines of which none begins with a hyphen (45) are no delimiter lines, and bytes without CR (13) lose one LF before one.
use Rattle.std.proofs.Common.{◌≡◌, ℕ, zero, suc, ◌-◌, ◌==◌, Bool, true, false, not, List, [], ◌∷◌, ◌++◌, length, take, refl, sym, ap, ◌∙◌, inl, inr, append_assoc}
use Rattle.std.specs.Prelude.{◌&&◌}
use Rattle.std.specs.List.{concat, list_all}
use Rattle.std.proofs.lemmas.Bool.{and_parts, and_from, cases_Bool, not-true}
use Rattle.std.proofs.lemmas.List.{append-nil}
use Rattle.kit.specs.Lines.{content, ending_len, put_before, raw_lines}
use Rattle.mime_parts.specs.Multiparts.{is_only, joined}
use Rattle.compose.proofs.LineEnds.{content-lf, is_no_cr}

-- ---- lines that begin with no hyphen

abbrev pub is_calm : List ℕ → Bool
is_calm [] = true
is_calm (b ∷ bs) = not (45 == b)

-- no line of bytes begins with a hyphen; the flag says whether the bytes begin one
abbrev pub calm : Bool → List ℕ → Bool
calm start [] = true
calm true (b ∷ bs) = not (45 == b) && calm (b == 10) bs
calm false (b ∷ bs) = calm (b == 10) bs

-- all lines, or all but the first
abbrev calm_lines : Bool → List (List ℕ) → Bool
calm_lines start [] = true
calm_lines true (l ∷ ls) = is_calm l && list_all is_calm ls
calm_lines false (l ∷ ls) = list_all is_calm ls

all_calm : (ls : List (List ℕ)) → calm_lines true ls ≡ true → list_all is_calm ls ≡ true
all_calm [] h = refl
all_calm (l ∷ ls) h = h

put_calm : (start : Bool) (b : ℕ) (ls : List (List ℕ)) → (start ≡ true → not (45 == b) ≡ true) → calm_lines (b == 10) ls ≡ true
    → calm_lines start (put_before b ls) ≡ true
put_calm true b [] first h = and_from (not (45 == b)) true (first refl) refl
put_calm false b [] first h = refl
put_calm start b (l ∷ ls) first h = elim (cases_Bool (b == 10)) [
  | inl lf ↦ (
      let more : calm_lines true (l ∷ ls) ≡ true = rw lf at h in
      rw lf (go start first more))
  | inr other ↦ (
      let more : calm_lines false (l ∷ ls) ≡ true = rw other at h in
      rw other (on start first more))
]
  where
    go : (start : Bool) → (start ≡ true → not (45 == b) ≡ true) → calm_lines true (l ∷ ls) ≡ true → calm_lines start ((b ∷ []) ∷ l ∷ ls) ≡ true
    go true first h = and_from (not (45 == b)) (list_all is_calm (l ∷ ls)) (first refl) h
    go false first h = h

    on : (start : Bool) → (start ≡ true → not (45 == b) ≡ true) → calm_lines false (l ∷ ls) ≡ true → calm_lines start ((b ∷ l) ∷ ls) ≡ true
    on true first h = and_from (not (45 == b)) (list_all is_calm ls) (first refl) h
    on false first h = h

calm_raw : (start : Bool) (bs : List ℕ) → calm start bs ≡ true → calm_lines start (raw_lines bs) ≡ true
calm_raw start [] h = refl
calm_raw true (b ∷ bs) h =
    let parts = and_parts (not (45 == b)) (calm (b == 10) bs) h in
    put_calm true b (raw_lines bs) (λ e. parts.0) (calm_raw (b == 10) bs parts.1)
calm_raw false (b ∷ bs) h = put_calm false b (raw_lines bs) (λ e. absurd cc) (calm_raw (b == 10) bs h)

pub raw_lines-calm : (bs : List ℕ) → calm true bs ≡ true → list_all is_calm (raw_lines bs) ≡ true
raw_lines-calm bs h = all_calm (raw_lines bs) (calm_raw true bs h)

-- what stands within a line
pub calm-within : (xs ys : List ℕ) → list_all (λ b. not (b == 10)) xs ≡ true → calm false ys ≡ true → calm false (xs ++ ys) ≡ true
calm-within [] ys all h = h
calm-within (x ∷ xs) ys all h =
    let parts = and_parts (not (x == 10)) (list_all (λ b. not (b == 10)) xs) all in
    ap (λ start. calm start (xs ++ ys)) (not-true (x == 10) parts.0) ∙ calm-within xs ys parts.1 h

-- bytes without a hyphen
pub calm-all : (start : Bool) (xs : List ℕ) → list_all (λ b. not (45 == b)) xs ≡ true → calm start xs ≡ true
calm-all start [] all = refl
calm-all true (x ∷ xs) all =
    let parts = and_parts (not (45 == x)) (list_all (λ b. not (45 == b)) xs) all in
    and_from (not (45 == x)) (calm (x == 10) xs) parts.0 (calm-all (x == 10) xs parts.1)
calm-all false (x ∷ xs) all =
    let parts = and_parts (not (45 == x)) (list_all (λ b. not (45 == b)) xs) all in
    calm-all (x == 10) xs parts.1

only_taken : (n : ℕ) (text line : List ℕ) → is_calm line ≡ true → is_only (45 ∷ text) (take n line) ≡ false
only_taken zero text line h = refl
only_taken (suc n) text [] h = refl
only_taken (suc n) text (b ∷ bs) h = rw (not-true (45 == b) h) refl

-- such a line is none with a text that begins with a hyphen
pub calm_is_not : (text line : List ℕ) → is_calm line ≡ true → is_only (45 ∷ text) (content line) ≡ false
calm_is_not text line h = only_taken (length line - ending_len line) text line h

-- ---- the last LF of lines

-- the lines of bytes that end by an LF: the last has some bytes before it
record Ends (bs : List ℕ) : Type 0 where
  init : List (List ℕ)
  last : List ℕ
  lines : raw_lines (bs ++ (10 ∷ [])) ≡ init ++ ((last ++ (10 ∷ [])) ∷ [])
  whole : concat init ++ last ≡ bs

ends : (bs : List ℕ) → Ends bs
ends [] = record { init = []; last = []; lines = refl; whole = refl }
ends (b ∷ bs) = let e = ends bs in go e.init e.last e.lines e.whole
  where
    go : (init : List (List ℕ)) (last : List ℕ) → raw_lines (bs ++ (10 ∷ [])) ≡ init ++ ((last ++ (10 ∷ [])) ∷ []) → concat init ++ last ≡ bs → Ends (b ∷ bs)
    go [] last lines whole = elim (cases_Bool (b == 10)) [
      | inl lf ↦ record { init = (b ∷ []) ∷ []; last = last; lines = ap (put_before b) lines ∙ rw lf refl; whole = ap (λ (xs : List ℕ). b ∷ xs) whole }
      | inr other ↦ record { init = []; last = b ∷ last; lines = ap (put_before b) lines ∙ rw other refl; whole = ap (λ (xs : List ℕ). b ∷ xs) whole }
    ]
    go (l ∷ ls) last lines whole = elim (cases_Bool (b == 10)) [
      | inl lf ↦ record { init = (b ∷ []) ∷ l ∷ ls; last = last; lines = ap (put_before b) lines ∙ rw lf refl; whole = ap (λ (xs : List ℕ). b ∷ xs) whole }
      | inr other ↦ record { init = (b ∷ l) ∷ ls; last = last; lines = ap (put_before b) lines ∙ rw other refl; whole = ap (λ (xs : List ℕ). b ∷ xs) whole }
    ]

joined-init : (init : List (List ℕ)) (last : List ℕ) → joined (init ++ (last ∷ [])) ≡ concat init ++ content last
joined-init [] last = refl
joined-init (l ∷ []) last = ap (λ (xs : List ℕ). xs ++ content last) (sym (append-nil l))
joined-init (l ∷ m ∷ ms) last =
    ap (λ (xs : List ℕ). l ++ xs) (joined-init (m ∷ ms) last) ∙ sym (append_assoc l (concat (m ∷ ms)) (content last))

no_cr_of : (xs ys : List ℕ) → list_all is_no_cr (xs ++ ys) ≡ true → list_all is_no_cr ys ≡ true
no_cr_of [] ys all = all
no_cr_of (x ∷ xs) ys all = no_cr_of xs ys (and_parts (is_no_cr x) (list_all is_no_cr (xs ++ ys)) all).1

-- the line end before a delimiter line belongs to that
pub joined-raw_lines : (bs : List ℕ) → list_all is_no_cr bs ≡ true → joined (raw_lines (bs ++ (10 ∷ []))) ≡ bs
joined-raw_lines bs all =
    let e = ends bs in
    let last = no_cr_of (concat e.init) e.last (ap (list_all is_no_cr) e.whole ∙ all) in
    ap joined e.lines ∙ joined-init e.init (e.last ++ (10 ∷ []))
    ∙ ap (λ (xs : List ℕ). concat e.init ++ xs) (content-lf e.last last) ∙ e.whole
