-- Lines that continue a line, one after the other.
use Rattle.std.proofs.Common.{◌≡◌, ℕ, zero, suc, ◌-◌, ◌<◌, ◌==◌, nat_eq, true, false, List, [], ◌∷◌, ◌++◌, length, take, map, refl, sym, ap, ◌∙◌, arith, inl, inr}
use Rattle.std.specs.Prelude.{codes}
use Rattle.std.specs.List.{concat, ends_with}
use Rattle.std.proofs.lemmas.Bool.{cases_Bool, cases_lt, false≢true}
use borrow.Author.Tests.{eqb-true}
use Rattle.std.proofs.lemmas.Bool.Decides.{Decides-eqb}
use Rattle.std.proofs.lemmas.List.Sums.{take_while-cons}
use Rattle.std.proofs.lemmas.Slice.Eq.{ends_is}
use Rattle.kit.specs.Lines.{put_before, raw_lines, content, ending_len}
use Rattle.mail_headers.specs.Fields.{continues, continuation}
use Rattle.mail_headers.specs.Headers.{is_empty, header_lines}
use Rattle.mail_headers.proofs.HeaderLines.{header_lines-filled, header_lines-empty}

-- what continues a line, where the first of the lines does and where it does not
continuation-more : (l : List ℕ) (ls : List (List ℕ)) → continues l ≡ true → continuation (l ∷ ls) ≡ l ++ continuation ls
continuation-more l ls more = ap concat (take_while-cons continues l ls) ∙ rw more refl

continuation-none : (l : List ℕ) (ls : List (List ℕ)) → continues l ≡ false → continuation (l ∷ ls) ≡ []
continuation-none l ls none = ap concat (take_while-cons continues l ls) ∙ rw none refl

-- ---- the first byte of a line tells whether its content continues

front_other : (n : ℕ) (raw : List ℕ) → continues raw ≡ false → continues (take n raw) ≡ false
front_other zero raw other = refl
front_other (suc n) [] other = refl
front_other (suc n) (b ∷ bs) other = other

front_white : (n : ℕ) (raw : List ℕ) → 0 < n → continues raw ≡ true → continues (take n raw) ≡ true
front_white zero raw some white = absurd (omega arith)
front_white (suc n) [] some white = white
front_white (suc n) (b ∷ bs) some white = white

-- a line that begins with white space has more than its line end
ending_shorter : (raw : List ℕ) → continues raw ≡ true → ending_len raw < length raw
ending_shorter [] white = absurd (false≢true white)
ending_shorter (b ∷ bs) white =
    elim (cases_Bool (ends_with nat_eq (b ∷ bs) (codes "\r\n"))) [
      | inl cr_lf ↦ rw cr_lf (elim (cases_lt 2 (length (b ∷ bs))) [
        | inl lt ↦ lt
        | inr le ↦ (
            let none : length (b ∷ bs) - 2 ≡ 0 = omega arith in
            let whole : b ∷ bs ≡ codes "\r\n" = (ends_is Decides-eqb (b ∷ bs) (codes "\r\n") _ refl).0 cr_lf ∙ rw none refl in
            absurd (false≢true (sym (ap continues whole) ∙ white)))
      ])
      | inr no_cr ↦ elim (cases_Bool (ends_with nat_eq (b ∷ bs) (codes "\n"))) [
        | inl lf ↦ rw (no_cr, lf) (elim (cases_lt 1 (length (b ∷ bs))) [
          | inl lt ↦ lt
          | inr le ↦ (
              let none : length (b ∷ bs) - 1 ≡ 0 = omega arith in
              let whole : b ∷ bs ≡ codes "\n" = (ends_is Decides-eqb (b ∷ bs) (codes "\n") _ refl).0 lf ∙ rw none refl in
              absurd (false≢true (sym (ap continues whole) ∙ white)))
        ])
        | inr no_lf ↦ rw (no_cr, no_lf) (omega arith)
      ]
    ]

content_other : (raw : List ℕ) → continues raw ≡ false → continues (content raw) ≡ false
content_other raw other = front_other (length raw - ending_len raw) raw other

content_white : (raw : List ℕ) → continues raw ≡ true → continues (content raw) ≡ true
content_white raw white = let shorter = ending_shorter raw white in front_white (length raw - ending_len raw) raw (omega (arith, shorter)) white

-- the first raw line begins as the bytes do
begins_alike : (b : ℕ) (ls : List (List ℕ)) → (l : List ℕ) × (rest : List (List ℕ)) × (put_before b ls ≡ (b ∷ l) ∷ rest)
begins_alike b [] = ([], [], refl)
begins_alike b (l ∷ ls) = elim (cases_Bool (b == 10)) [ inl lf ↦ ([], l ∷ ls, rw lf refl) | inr other ↦ (l, ls, rw other refl) ]

-- ---- what follows a line

-- nothing continues a line where the bytes after it do not begin with white space
pub no_continuation : (bytes : List ℕ) → continues bytes ≡ false → continuation (map content (raw_lines bytes)) ≡ []
no_continuation [] other = refl
no_continuation (b ∷ bs) other =
    let e = begins_alike b (raw_lines bs) in
    ap (λ (raws : List (List ℕ)). continuation (map content raws)) e.2 ∙ continuation-none (content (b ∷ e.0)) (map content e.1) (content_other (b ∷ e.0) other)

-- where they do, the first line does
pub one_continuation : (bytes raw : List ℕ) (raws : List (List ℕ)) → continues bytes ≡ true → raw_lines bytes ≡ raw ∷ raws
    → continuation (map content (raw_lines bytes)) ≡ content raw ++ continuation (map content raws)
one_continuation [] raw raws white lines = absurd (false≢true white)
one_continuation (b ∷ bs) raw raws white lines =
    let e = begins_alike b (raw_lines bs) in
    let first : raw ≡ b ∷ e.0 = cc (lines, e.2) in
    ap (λ (ls : List (List ℕ)). continuation (map content ls)) lines ∙ continuation-more (content raw) (map content raws) (content_white raw (ap continues first ∙ white))

empty_other : (line : List ℕ) → is_empty line ≡ true → continues line ≡ false
empty_other [] empty = refl
empty_other (b ∷ bs) empty = absurd (omega (arith, eqb-true (length (b ∷ bs)) 0 empty))

-- the line that ends a header continues nothing
pub continuation_in_header : (raws : List (List ℕ)) → continuation (header_lines raws) ≡ continuation (map content raws)
continuation_in_header [] = refl
continuation_in_header (raw ∷ raws) =
    let line = content raw in
    let lines = map content raws in
    elim (cases_Bool (is_empty line)) [
      | inl empty ↦ ap continuation (header_lines-empty raw raws empty) ∙ sym (continuation-none line lines (empty_other line empty))
      | inr filled ↦ ap continuation (header_lines-filled raw raws filled) ∙ elim (cases_Bool (continues line)) [
        | inl white ↦ continuation-more line (header_lines raws) white ∙ (ap (λ (bs : List ℕ). line ++ bs) (continuation_in_header raws) ∙ sym (continuation-more line lines white))
        | inr other ↦ continuation-none line (header_lines raws) other ∙ sym (continuation-none line lines other)
      ]
    ]
