-- Lines that end by an LF (10) without a CR (13) before it.
use Rattle.std.proofs.Common.{◌≡◌, ℕ, ◌==◌, nat_eq, Bool, true, false, not, List, [], ◌∷◌, ◌++◌, refl, sym, ap, ◌∙◌, append_assoc, arith}
use Rattle.std.specs.Prelude.{◌&&◌, codes}
use Rattle.std.specs.List.{ends_with, list_all}
use Rattle.std.proofs.lemmas.Bool.{and_parts, and_from, not-true}
use Rattle.std.proofs.lemmas.Bool.Decides.{nat_tests}
use Rattle.kit.proofs.ContentLemmas.{ends_seam, last_of, take_seam}
use Rattle.kit.specs.Lines.{content, put_before}
use Rattle.kit.specs.Printing.{is_printing_byte}

-- an LF is a line of its own
pub put_before-lf : (ls : List (List ℕ)) → put_before 10 ls ≡ (10 ∷ []) ∷ ls
put_before-lf [] = refl
put_before-lf (l ∷ ls) = refl

abbrev pub is_no_cr : ℕ → Bool
is_no_cr b = not (13 == b)

no_cr_end : (q : List ℕ) → list_all is_no_cr q ≡ true → ends_with nat_eq (q ++ (10 ∷ [])) (codes "\r\n") ≡ false
no_cr_end [] all = refl
no_cr_end (b ∷ bs) all =
    let e = last_of b bs in
    let last = and_parts (list_all is_no_cr e.0) (is_no_cr e.1) (cut_all e.0 e.1 (ap (list_all is_no_cr) (sym e.2) ∙ all)) in
    ap (λ t. ends_with nat_eq (t ++ (10 ∷ [])) (codes "\r\n")) e.2
    ∙ ap (λ t. ends_with nat_eq t (codes "\r\n")) (append_assoc e.0 (e.1 ∷ []) (10 ∷ []))
    ∙ ends_seam e.0 (e.1 ∷ 10 ∷ []) (codes "\r\n") refl ∙ rw (not-true (13 == e.1) last.1) refl
  where
    cut_all : (xs : List ℕ) (c : ℕ) → list_all is_no_cr (xs ++ (c ∷ [])) ≡ true → (list_all is_no_cr xs && is_no_cr c) ≡ true
    cut_all [] c all = (and_parts (is_no_cr c) true all).0
    cut_all (x ∷ xs) c all =
        let parts = and_parts (is_no_cr x) (list_all is_no_cr (xs ++ (c ∷ []))) all in
        let more = and_parts (list_all is_no_cr xs) (is_no_cr c) (cut_all xs c parts.1) in
        and_from (is_no_cr x && list_all is_no_cr xs) (is_no_cr c) (and_from (is_no_cr x) (list_all is_no_cr xs) parts.0 more.0) more.1

pub content-lf : (q : List ℕ) → list_all is_no_cr q ≡ true → content (q ++ (10 ∷ [])) ≡ q
content-lf q all = rw (no_cr_end q all, ends_seam q (10 ∷ []) (codes "\n") refl) (take_seam 1 q (10 ∷ []) refl)

pub printing_no_cr : (b : ℕ) → is_printing_byte b ≡ true → is_no_cr b ≡ true
printing_no_cr b h = grind (arith, nat_tests)
