-- The content of a line, by how the line ends.
use Rattle.std.proofs.Common.{◌≡◌, ◌≢◌, ℕ, ◌-◌, ◌<◌, false, ◌==◌, nat_eq, List, [], ◌∷◌, ◌++◌, length, take, Bor, Option, Some, None, refl, sym, ap, ◌∙◌, arith, inl, inr, append_assoc, length-append}
use Rattle.std.specs.Prelude.{MatchOption, unwrap_or, codes}
use Rattle.std.specs.Cmp.Lexicographic.{pointwise}
use Rattle.std.specs.List.{ends_with}
use Rattle.std.proofs.lemmas.Bool.{cases_Bool, ne_eqb}
use Rattle.std.proofs.lemmas.Bool.Decides.{Decides-eqb}
use Rattle.std.proofs.lemmas.List.{take-append-le, take_all}
use Rattle.std.proofs.lemmas.Slice.Eq.{ends_is}
use Rattle.std.proofs.Math.Seq.{drop-append_seam}
use Rattle.kit.specs.Lines.{content}
use Rattle.kit.proofs.RawLines.{lf_at}

-- a list that is not empty, cut before its last element
pub last_of : (b : ℕ) (bs : List ℕ) → (prefix : List ℕ) × (c : ℕ) × (b ∷ bs ≡ prefix ++ (c ∷ []))
last_of b [] = ([], b, refl)
last_of b (c ∷ bs) = let e = last_of c bs in (b ∷ e.0, e.1, ap (λ (xs : List ℕ). b ∷ xs) e.2)

-- a list without its last elements
pub take_seam : (n : ℕ) (prefix tail : List ℕ) → length tail ≡ n → take (length (prefix ++ tail) - n) (prefix ++ tail) ≡ prefix
take_seam n prefix tail len =
    let at : length (prefix ++ tail) - n ≡ length prefix = omega (arith, length-append prefix tail) in
    rw (at, take-append-le (length prefix) prefix tail (omega arith)) (take_all (length prefix) prefix (omega arith))

-- a list ends with what its last elements are
pub ends_seam : (prefix tail needle : List ℕ) → length tail ≡ length needle → ends_with nat_eq (prefix ++ tail) needle ≡ pointwise nat_eq needle tail
ends_seam prefix tail needle len =
    let at : length (prefix ++ tail) - length needle ≡ length prefix = omega (arith, length-append prefix tail) in
    rw (at, drop-append_seam) refl

-- ---- a line that no LF ends

-- bytes with an LF have it before their end
lf_in : (prefix rest : List ℕ) → lf_at (prefix ++ 10 ∷ rest) < length (prefix ++ 10 ∷ rest)
lf_in [] rest = omega arith
lf_in (b ∷ prefix) rest = elim (cases_Bool (b == 10)) [
  | inl lf ↦ rw lf (omega arith)
  | inr other ↦ rw other (omega (arith, lf_in prefix rest))
]

ends_open : (line before : List ℕ) → lf_at line ≡ length line → ends_with nat_eq line (before ++ (10 ∷ [])) ≡ false
ends_open line before none = elim (cases_Bool (ends_with nat_eq line (before ++ (10 ∷ [])))) [
  | inl ends ↦ (
      let cut = (ends_is Decides-eqb line (before ++ (10 ∷ [])) _ refl).0 ends in
      let prefix = take (length line - length (before ++ (10 ∷ []))) line in
      let whole : line ≡ (prefix ++ before) ++ (10 ∷ []) = cut ∙ sym (append_assoc prefix before (10 ∷ [])) in
      absurd (omega (arith, none, ap lf_at whole, ap length whole, lf_in (prefix ++ before) [])))
  | inr other ↦ other
]

pub content_open : (line : List ℕ) → lf_at line ≡ length line → content line ≡ line
content_open line none =
    let whole : length line - 0 ≡ length line = omega arith in
    rw (ends_open line (13 ∷ []) none, ends_open line [] none, whole) (take_all (length line) line (omega arith))

-- ---- a line that an LF ends

content_cr : (line : List ℕ) → content ((line ++ (13 ∷ [])) ++ (10 ∷ [])) ≡ line
content_cr line =
    ap content (append_assoc line (13 ∷ []) (10 ∷ []))
    ∙ rw (ends_seam line (13 ∷ 10 ∷ []) (codes "\r\n") refl) (take_seam 2 line (13 ∷ 10 ∷ []) refl)

content_lf : (line : List ℕ) → ends_with nat_eq (line ++ (10 ∷ [])) (codes "\r\n") ≡ false → content (line ++ (10 ∷ [])) ≡ line
content_lf line other = rw (other, ends_seam line (10 ∷ []) (codes "\n") refl) (take_seam 1 line (10 ∷ []) refl)

-- no CR precedes the LF
ends_lf : (line : List ℕ) → ((prefix : List ℕ) → line ≢ prefix ++ (13 ∷ [])) → ends_with nat_eq (line ++ (10 ∷ [])) (codes "\r\n") ≡ false
ends_lf [] none = refl
ends_lf (b ∷ bs) none =
    let e = last_of b bs in
    let other : 13 ≢ e.1 = λ is. none e.0 (e.2 ∙ ap (λ c. e.0 ++ (c ∷ [])) (sym is)) in
    ap (λ line. ends_with nat_eq (line ++ (10 ∷ [])) (codes "\r\n")) e.2
    ∙ ap (λ line. ends_with nat_eq line (codes "\r\n")) (append_assoc e.0 (e.1 ∷ []) (10 ∷ []))
    ∙ ends_seam e.0 (e.1 ∷ 10 ∷ []) (codes "\r\n") refl ∙ rw (ne_eqb 13 e.1 other) refl

-- the line without one CR, if it ends with one
pub content_stripped : (line : Bor (List ℕ)) (r : Option (Bor (List ℕ)))
    → MatchOption r ((prefix : List ℕ) → line.now ≢ prefix ++ (13 ∷ [])) (λ x. line.now ≡ x.now ++ (13 ∷ [])) → content (line.now ++ (10 ∷ [])) ≡ (unwrap_or r line).now
content_stripped line None none = content_lf line.now (ends_lf line.now none)
content_stripped line (Some x) found = ap (λ (l : List ℕ). content (l ++ (10 ∷ []))) found ∙ content_cr x.now
