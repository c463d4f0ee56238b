-- The mails of an mbox that grows after an empty line.
use Rattle.std.proofs.Common.{◌≡◌, inl, inr, ℕ, ◌+◌, Bool, true, ◌&&◌, ◌||◌, cond, List, [], ◌∷◌, ◌++◌, length, take, drop, refl, sym, ap, subst, ◌∙◌, append_assoc, length-append, arith, ◌≢◌, ◌⊎◌, zero, suc}
use Rattle.std.specs.List.{concat, onto_first}
use Rattle.std.specs.Prelude.{bytes_eq, codes}
use Rattle.std.proofs.lemmas.Bool.{cases_Bool, cases_eq, ne_eqb}
use Rattle.std.proofs.lemmas.Bool.Decides.{Decides-eqb}
use Rattle.std.proofs.lemmas.List.{append-nil, take-append-drop}
use Rattle.std.proofs.lemmas.List.Folds.{concat-append}
use Rattle.std.proofs.lemmas.Slice.Eq.{slice_eq-Decides}
use Rattle.kit.specs.Lines.{put_before, raw_lines}
use Rattle.kit.proofs.LineLemmas.{concat-raw_lines}
use Rattle.mboxrd.specs.Mails.{Mail, is_empty_line, begins_with_from, groups, mail_bytes, mails_of, mails_after_first, mails_from}
use Rattle.mboxrd.specs.Remaining.{from_text, glue}
use Rattle.mboxrd.specs.Growth.{IsClosed, BeginsMail, ClosedFrom, MailsGrow}
use Rattle.mboxrd.proofs.GluedLines.{glue_from}
use Rattle.mboxrd.proofs.Groups.{Lines, head, tail, flat, some_groups, all_lines}
use Rattle.mboxrd.proofs.LineCuts.{EndsInLf, lf_last, lines_on, no_lines}

-- ---- lines that grow after an empty one

grow_by : (may : Bool) (l : List ℕ) (xs ys hs : List Lines) → onto_first l xs ≡ onto_first l ys ++ hs
    → cond (may && begins_with_from l) ([] ∷ onto_first l xs) (onto_first l xs) ≡ cond (may && begins_with_from l) ([] ∷ onto_first l ys) (onto_first l ys) ++ hs
grow_by may l xs ys hs e = elim (cases_Bool (may && begins_with_from l)) [ inl h ↦ rw h (ap (λ (z : List Lines). [] ∷ z) e) | inr h ↦ rw h e ]

groups_grow : (may : Bool) (ls : Lines) (line : List ℕ) (ms : Lines) → is_empty_line line ≡ true → groups true ms ≡ [] ∷ tail (groups true ms)
    → groups may (ls ++ line ∷ ms) ≡ groups may (ls ++ line ∷ []) ++ tail (groups true ms)
groups_grow may [] line ms empty first =
    grow_by may line (groups (is_empty_line line) ms) (groups (is_empty_line line) []) (tail (groups true ms))
    (ap (λ (e : Bool). onto_first line (groups e ms)) empty ∙ ap (onto_first line) first ∙ ap (λ (e : Bool). onto_first line (groups e []) ++ tail (groups true ms)) (sym empty))
groups_grow may (l ∷ ls) line ms empty first =
    let e = is_empty_line l in
    let some = some_groups e (ls ++ line ∷ []) in
    grow_by may l (groups e (ls ++ line ∷ ms)) (groups e (ls ++ line ∷ [])) (tail (groups true ms))
    (ap (onto_first l) (groups_grow e ls line ms empty first) ∙ ap (λ (z : List Lines). onto_first l (z ++ tail (groups true ms))) some
    ∙ ap (λ (z : List Lines). onto_first l z ++ tail (groups true ms)) (sym some))

-- ---- mails of groups one after the other

mails_on : (at : ℕ) (gs hs : List Lines) → mails_of at (gs ++ hs) ≡ mails_of at gs ++ mails_of (at + length (concat (flat gs))) hs
mails_on at [] hs = ap (λ (k : ℕ). mails_of k hs) (let e : at ≡ at + 0 = omega arith in e)
mails_on at (g ∷ gs) hs =
    let next = at + length (concat g) in
    let e : next + length (concat (flat gs)) ≡ at + length (concat (g ++ flat gs)) =
    omega (arith, ap length (concat-append g (flat gs)), length-append (concat g) (concat (flat gs))) in
    ap (λ (z : List Mail). record { bytes = mail_bytes g; end = next } ∷ z) (mails_on next gs hs ∙ ap (λ (k : ℕ). mails_of next gs ++ mails_of k hs) e)

after_first_on : (at : ℕ) (g : Lines) (gs hs : List Lines) → mails_after_first at ((g ∷ gs) ++ hs) ≡ mails_after_first at (g ∷ gs) ++ mails_of (at + length (concat (flat (g ∷ gs)))) hs
after_first_on at g gs hs =
    let e : at + length (concat g) + length (concat (flat gs)) ≡ at + length (concat (g ++ flat gs)) =
    omega (arith, ap length (concat-append g (flat gs)), length-append (concat g) (concat (flat gs))) in
    mails_on (at + length (concat g)) gs hs ∙ ap (λ (k : ℕ). mails_of (at + length (concat g)) gs ++ mails_of k hs) e

-- ---- what is added

-- it has no line before its separator line
first_none : (more : List ℕ) → BeginsMail more → groups true (raw_lines more) ≡ [] ∷ tail (groups true (raw_lines more))
first_none more (inl none) = subst (λ (z : List ℕ). groups true (raw_lines z) ≡ [] ∷ tail (groups true (raw_lines z))) (sym none) refl
first_none more (inr begins) =
    let front : take 5 more ≡ from_text = sym ((slice_eq-Decides Decides-eqb from_text (take 5 more) _ refl).0 begins) in
    let is : more ≡ from_text ++ drop 5 more = sym (take-append-drop 5 more) ∙ ap (λ z. z ++ drop 5 more) front in
    let lines : raw_lines more ≡ glue from_text (raw_lines (drop 5 more)) = ap raw_lines is ∙ glue_from (raw_lines (drop 5 more)) in
    subst (λ (z : Lines). groups true z ≡ [] ∷ tail (groups true z)) (sym lines) refl

its_mails : (at n : ℕ) (more : List ℕ) → BeginsMail more → mails_from (at + n) more ≡ mails_of (at + n) (tail (groups true (raw_lines more)))
its_mails at n more begins =
    ap (mails_after_first (at + n)) (first_none more begins) ∙ ap (λ (k : ℕ). mails_of k (tail (groups true (raw_lines more)))) (let e : at + n + 0 ≡ at + n = omega arith in e)

-- ---- what was there before

empty_cases : (line : List ℕ) → is_empty_line line ≡ true → (line ≡ 10 ∷ []) ⊎ (line ≡ 13 ∷ 10 ∷ [])
empty_cases line empty = elim (cases_Bool (bytes_eq line (codes "\n"))) [
  | inl lf ↦ inl ((slice_eq-Decides Decides-eqb line (codes "\n") _ refl).0 lf)
  | inr other ↦ inr ((slice_eq-Decides Decides-eqb line (codes "\r\n") _ refl).0 (ap (λ (b : Bool). b || bytes_eq line (codes "\r\n")) (sym other) ∙ empty))
]

ends_in_lf : (line : List ℕ) → (line ≡ 10 ∷ []) ⊎ (line ≡ 13 ∷ 10 ∷ []) → (front : List ℕ) × (line ≡ front ++ 10 ∷ [])
ends_in_lf line (inl lf) = ([], lf)
ends_in_lf line (inr crlf) = (13 ∷ [], crlf)

closed_ends : (mbox : List ℕ) (lines : Lines) (last : List ℕ) → raw_lines mbox ≡ lines ++ (last ∷ []) → is_empty_line last ≡ true → EndsInLf mbox
closed_ends mbox lines last is empty =
    let e = ends_in_lf last (empty_cases last empty) in
    let whole : mbox ≡ (concat lines ++ e.0) ++ 10 ∷ [] = sym (concat-raw_lines mbox) ∙ ap concat is ∙ concat-append lines (last ∷ [])
    ∙ ap (λ z. concat lines ++ z) (append-nil last ∙ e.1) ∙ sym (append_assoc (concat lines) e.0 (10 ∷ [])) in
    subst EndsInLf (sym whole) (lf_last (concat lines ++ e.0))

pub mails_grow : MailsGrow
mails_grow at old more (inl none) begins =
    let z : at ≡ at + 0 = omega arith in
    subst (λ (o : List ℕ). mails_from at (o ++ more) ≡ mails_from at o ++ mails_from (at + length o) more) (sym none) (ap (λ (k : ℕ). mails_from k more) z)
mails_grow at old more (inr (lines, last, is, empty)) begins =
    let ms = raw_lines more in
    let gs = groups true (raw_lines old) in
    let hs = tail (groups true ms) in
    let new : raw_lines (old ++ more) ≡ lines ++ last ∷ ms =
    lines_on old more (closed_ends old lines last is empty) ∙ ap (λ (z : Lines). z ++ ms) is ∙ append_assoc lines (last ∷ []) ms in
    let grown : groups true (raw_lines (old ++ more)) ≡ gs ++ hs =
    ap (groups true) new ∙ groups_grow true lines last ms empty (first_none more begins) ∙ ap (λ (z : Lines). groups true z ++ hs) (sym is) in
    let size : length (concat (flat gs)) ≡ length old = ap (λ (z : Lines). length (concat z)) (all_lines true (raw_lines old)) ∙ ap length (concat-raw_lines old) in
    let cut : mails_after_first at (gs ++ hs) ≡ mails_after_first at gs ++ mails_of (at + length (concat (flat gs))) hs =
    subst (λ (z : List Lines). mails_after_first at (z ++ hs) ≡ mails_after_first at z ++ mails_of (at + length (concat (flat z))) hs) (sym (some_groups true (raw_lines old)))
    (after_first_on at (head gs) (tail gs) hs) in
    ap (mails_after_first at) grown ∙ cut ∙ ap (λ (k : ℕ). mails_after_first at gs ++ mails_of (at + k) hs) size
    ∙ ap (λ (z : List Mail). mails_after_first at gs ++ z) (sym (its_mails at (length old) more begins))

-- ---- from any offset on

abbrev Ends : Lines → Type 0
Ends ls = (lines : Lines) × (last : List ℕ) × (ls ≡ lines ++ (last ∷ [])) × (is_empty_line last ≡ true)

after_lf : (b : ℕ) (l : List ℕ) (ks lines : Lines) (last : List ℕ) → is_empty_line last ≡ true → (b ∷ []) ∷ l ∷ ks ≡ lines ++ (last ∷ []) → Ends (l ∷ ks)
after_lf b l ks [] last empty e = absurd cc
after_lf b l ks (x ∷ lines) last empty e = let f : l ∷ ks ≡ lines ++ (last ∷ []) = cc in (lines, last, f, empty)

last_inside : (b : ℕ) (l : List ℕ) → b ≢ 10 → (b ∷ l ≡ 10 ∷ []) ⊎ (b ∷ l ≡ 13 ∷ 10 ∷ []) → l ≡ 10 ∷ []
last_inside b l other (inl lf) = absurd (other cc)
last_inside b l other (inr crlf) = cc

inside : (b : ℕ) (l : List ℕ) (ks lines : Lines) (last : List ℕ) → b ≢ 10 → is_empty_line last ≡ true → (b ∷ l) ∷ ks ≡ lines ++ (last ∷ []) → Ends (l ∷ ks)
inside b l ks [] last other empty e =
    let same : b ∷ l ≡ last = cc in
    let none : ks ≡ [] = cc in
    let rest : l ≡ 10 ∷ [] = last_inside b l other (empty_cases (b ∷ l) (ap is_empty_line same ∙ empty)) in
    let f : l ∷ ks ≡ (10 ∷ []) ∷ [] = ap (λ (z : List ℕ). z ∷ ks) rest ∙ ap (λ (z : Lines). (10 ∷ []) ∷ z) none in
    ([], 10 ∷ [], f, refl)
inside b l ks (x ∷ lines) last other empty e =
    let f : ks ≡ lines ++ (last ∷ []) = cc in
    (l ∷ lines, last, ap (λ (z : Lines). l ∷ z) f, empty)

closed_put : (b : ℕ) (bs : List ℕ) (ls lines : Lines) (last : List ℕ) → raw_lines bs ≡ ls → put_before b ls ≡ lines ++ (last ∷ []) → is_empty_line last ≡ true → IsClosed bs
closed_put b bs [] lines last is e empty = inl (no_lines bs is)
closed_put b bs (l ∷ ks) lines last is e empty = elim (cases_eq b 10) [
  | inl lf ↦
      let f : put_before b (l ∷ ks) ≡ (10 ∷ []) ∷ l ∷ ks = ap (λ (k : ℕ). put_before k (l ∷ ks)) lf in
      let h = after_lf 10 l ks lines last empty (sym f ∙ e) in
      inr (h.0, h.1, is ∙ h.2, h.3)
  | inr other ↦
      let f : put_before b (l ∷ ks) ≡ (b ∷ l) ∷ ks = rw (ne_eqb b 10 other) refl in
      let h = inside b l ks lines last other empty (sym f ∙ e) in
      inr (h.0, h.1, is ∙ h.2, h.3)
]

closed_after : (b : ℕ) (bs : List ℕ) → IsClosed (b ∷ bs) → IsClosed bs
closed_after b bs (inl none) = absurd cc
closed_after b bs (inr (lines, last, is, empty)) = closed_put b bs (raw_lines bs) lines last refl is empty

pub closed_from : ClosedFrom
closed_from zero mbox closed = closed
closed_from (suc n) [] closed = inl refl
closed_from (suc n) (b ∷ mbox) closed = closed_from n mbox (closed_after b mbox closed)
