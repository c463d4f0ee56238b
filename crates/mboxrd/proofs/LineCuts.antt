-- Raw lines from an offset on.
use Rattle.std.proofs.Common.{◌≡◌, inl, inr, ℕ, ◌==◌, List, [], ◌∷◌, ◌++◌, length, drop, refl, sym, ap, ◌∙◌, length-append}
use Rattle.std.specs.Prelude.{⊤}
use Rattle.std.specs.List.{concat}
use Rattle.std.proofs.lemmas.Bool.{cases_Bool}
use Rattle.std.proofs.lemmas.List.{drop-drop}
use Rattle.kit.specs.Lines.{put_before, raw_lines}
use Rattle.mboxrd.proofs.GluedLines.{put_lf}

-- ---- from the end of a line on

put_some : (b : ℕ) (ls : List (List ℕ)) → put_before b ls ≡ [] → ⊥
put_some b [] e = cc
put_some b (l ∷ ls) e = elim (cases_Bool (b == 10)) [
  | inl lf ↦ let f : put_before b (l ∷ ls) ≡ (b ∷ []) ∷ l ∷ ls = rw lf refl in let g = sym f ∙ e in cc
  | inr other ↦ let f : put_before b (l ∷ ls) ≡ (b ∷ l) ∷ ls = rw other refl in let g = sym f ∙ e in cc
]

pub no_lines : (bytes : List ℕ) → raw_lines bytes ≡ [] → bytes ≡ []
no_lines [] e = refl
no_lines (b ∷ bs) e = absurd (put_some b (raw_lines bs) e)

first_cut : (b : ℕ) (bs : List ℕ) (ks : List (List ℕ)) (line : List ℕ) (lines : List (List ℕ)) → raw_lines bs ≡ ks → put_before b ks ≡ line ∷ lines
    → ((k : List ℕ) (more : List (List ℕ)) → ks ≡ k ∷ more → raw_lines (drop (length k) bs) ≡ more) → raw_lines (drop (length line) (b ∷ bs)) ≡ lines
first_cut b bs [] line lines is e more =
    let first : (b ∷ []) ≡ line = cc in
    let others : [] ≡ lines = cc in
    ap (λ (z : List ℕ). raw_lines (drop (length z) (b ∷ bs))) (sym first) ∙ is ∙ others
first_cut b bs (k ∷ ks) line lines is e more = elim (cases_Bool (b == 10)) [
  | inl lf ↦
      let f : put_before b (k ∷ ks) ≡ (b ∷ []) ∷ k ∷ ks = rw lf refl in
      let g = sym f ∙ e in
      let first : (b ∷ []) ≡ line = cc in
      let others : k ∷ ks ≡ lines = cc in
      ap (λ (z : List ℕ). raw_lines (drop (length z) (b ∷ bs))) (sym first) ∙ is ∙ others
  | inr other ↦
      let f : put_before b (k ∷ ks) ≡ (b ∷ k) ∷ ks = rw other refl in
      let g = sym f ∙ e in
      let first : (b ∷ k) ≡ line = cc in
      let others : ks ≡ lines = cc in
      ap (λ (z : List ℕ). raw_lines (drop (length z) (b ∷ bs))) (sym first) ∙ more k ks refl ∙ others
]

-- after a line come the others
after_line : (bytes line : List ℕ) (lines : List (List ℕ)) → raw_lines bytes ≡ line ∷ lines → raw_lines (drop (length line) bytes) ≡ lines
after_line [] line lines e = absurd cc
after_line (b ∷ bs) line lines e = first_cut b bs (raw_lines bs) line lines refl e (λ k more is. after_line bs k more is)

-- the same after several lines
pub after_lines : (front back : List (List ℕ)) (bytes : List ℕ) → raw_lines bytes ≡ front ++ back → raw_lines (drop (length (concat front)) bytes) ≡ back
after_lines [] back bytes e = e
after_lines (l ∷ front) back bytes e =
    ap raw_lines (ap (λ (n : ℕ). drop n bytes) (length-append l (concat front)) ∙ sym (drop-drop (length (concat front)) (length l) bytes))
    ∙ after_lines front back (drop (length l) bytes) (after_line bytes l (front ++ back) e)

-- ---- after bytes of which an LF (10) is the last

abbrev pub EndsInLf : List ℕ → Type 0
EndsInLf [] = ⊤
EndsInLf (b ∷ []) = b ≡ 10
EndsInLf (b ∷ c ∷ bs) = EndsInLf (c ∷ bs)

pub lf_last : (front : List ℕ) → EndsInLf (front ++ 10 ∷ [])
lf_last [] = refl
lf_last (b ∷ []) = refl
lf_last (b ∷ c ∷ front) = lf_last (c ∷ front)

put_all : (b : ℕ) (ls ms : List (List ℕ)) → (ls ≡ [] → ⊥) → put_before b (ls ++ ms) ≡ put_before b ls ++ ms
put_all b [] ms some = absurd (some refl)
put_all b (l ∷ ls) ms some = elim (cases_Bool (b == 10)) [ inl lf ↦ rw lf refl | inr other ↦ rw other refl ]

-- other lines begin
pub lines_on : (front more : List ℕ) → EndsInLf front → raw_lines (front ++ more) ≡ raw_lines front ++ raw_lines more
lines_on [] more ends = refl
lines_on (b ∷ []) more ends =
    ap (λ (k : ℕ). put_before k (raw_lines more)) ends ∙ put_lf (raw_lines more) ∙ ap (λ (k : ℕ). raw_lines (k ∷ []) ++ raw_lines more) (sym ends)
lines_on (b ∷ c ∷ front) more ends =
    ap (put_before b) (lines_on (c ∷ front) more ends)
    ∙ put_all b (raw_lines (c ∷ front)) (raw_lines more) (λ none. let e = no_lines (c ∷ front) none in absurd cc)
