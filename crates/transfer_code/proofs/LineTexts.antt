-- What a line decodes to, as a relation between what is left of it and its text.
use Rattle.std.proofs.Common.{◌≡◌, ℕ, zero, suc, ◌+◌, ◌*◌, ◌-◌, Bool, true, false, eqb, cond, List, [], ◌∷◌, ◌++◌, length, get_or, take, drop, codes, Option, Some, None, refl, sym, ap, subst, ◌∙◌, arith, inl, inr}
use Rattle.std.specs.Prelude.{◌&&◌, ◌==◌, nat_eq, if◌then◌else◌, reverse, flat_map}
use Rattle.std.specs.List.{ends_with, prefix_len, suffix_len}
use Rattle.std.proofs.lemmas.Bool.{and_parts, cases_eq, eq-eqb, ne_eqb, eqb-true}
use Rattle.std.proofs.lemmas.List.{length-reverse, get_or-reverse}
use Rattle.std.proofs.lemmas.Grind.{reverse_onto}
use Rattle.std.proofs.lemmas.List.Folds.{prefix_len-append}
use Rattle.std.proofs.lemmas.List.Sums.{prefix_len_passes, suffix_len_is, suffix_len-le-length, AllPass-from_list_all, list_all-from_AllPass}
use Rattle.kit.specs.Lines.{content}
use Rattle.kit.specs.White.{is_blank, is_white, trim_end}
use Rattle.transfer_code.specs.Escapes.{digit_of, escape_in}
use Rattle.transfer_code.specs.Quoted.{is_broken, LinesText, no_line, a_line, LineText, line_end, soft_break, an_escape, a_byte, trimmed_text, line_text}
use Rattle.transfer_code.proofs.EscapeLemmas.{at_escape, at_other, of_digits, digits_of}

-- ---- white space at the end

suffix_len-white : (xs : List ℕ) → is_blank xs ≡ true → suffix_len is_white xs ≡ length xs
suffix_len-white xs white =
    let whole : length xs - 0 ≡ length xs = omega arith in
    suffix_len_is is_white xs 0 0 (omega arith) (λ k _ lt. AllPass-from_list_all is_white xs white k 0 lt) (λ lt. absurd (omega arith)) ∙ whole

white_from_suffix : (xs : List ℕ) → suffix_len is_white xs ≡ length xs → is_blank xs ≡ true
white_from_suffix xs all = list_all-from_AllPass is_white xs (λ k d lt.
    let back : length xs - 1 - (length xs - 1 - k) ≡ k = omega arith in
    let at : get_or (reverse xs) (length xs - 1 - k) d ≡ get_or xs k d =
    get_or-reverse xs (length xs - 1 - k) d (omega arith) ∙ ap (λ i. get_or xs i d) back in
    rw at at (prefix_len_passes is_white (reverse xs) (length xs - 1 - k) d (omega arith)))

first_other : (v : Bool) → (v && true) ≡ false → v ≡ false
first_other true e = e
first_other false e = e

not_both : (v : Bool) → v ≡ false → v ≡ true → ⊥
not_both v e f = cc

trim_end-white : (xs : List ℕ) → is_blank xs ≡ true → trim_end xs ≡ []
trim_end-white xs white =
    let all = suffix_len-white xs white in
    let none : length xs - suffix_len is_white xs ≡ 0 = omega arith in
    ap (λ n. take n xs) none

suffix_len-cons : (x : ℕ) (xs : List ℕ) → is_blank (x ∷ xs) ≡ false → suffix_len is_white (x ∷ xs) ≡ suffix_len is_white xs
suffix_len-cons x xs other = go (is_blank xs) refl
  where
    e : suffix_len is_white (x ∷ xs) ≡ cond (eqb (suffix_len is_white xs) (length (reverse xs))) (length (reverse xs) + prefix_len is_white (x ∷ [])) (suffix_len is_white xs)
    e = ap (prefix_len is_white) (reverse_onto xs x []) ∙ prefix_len-append is_white (reverse xs) (x ∷ [])

    go : (v : Bool) → is_blank xs ≡ v → suffix_len is_white (x ∷ xs) ≡ suffix_len is_white xs
    go true white =
        let x_other : is_white x ≡ false = first_other (is_white x) (rw white at other) in
        let s = suffix_len-white xs white in
        let n : length (reverse xs) ≡ length xs = length-reverse xs in
        e ∙ rw (n, s, eq-eqb (length xs) (length xs) refl, x_other) (omega arith)
    go false white = e ∙ rw (ne_eqb (suffix_len is_white xs) (length (reverse xs)) (λ same. not_both (is_blank xs) white (white_from_suffix xs (same ∙ length-reverse xs)))) refl

trim_end-cons : (x : ℕ) (xs : List ℕ) → is_blank (x ∷ xs) ≡ false → trim_end (x ∷ xs) ≡ x ∷ trim_end xs
trim_end-cons x xs other =
    let same = suffix_len-cons x xs other in
    let le = suffix_len-le-length is_white xs in
    let n : length (x ∷ xs) - suffix_len is_white (x ∷ xs) ≡ suc (length xs - suffix_len is_white xs) = omega arith in
    ap (λ n. take n (x ∷ xs)) n

-- ---- the byte before trimmed ones

ends_with-cons : (b x : ℕ) (xs : List ℕ) → ends_with nat_eq (b ∷ x ∷ xs) (codes "=") ≡ ends_with nat_eq (x ∷ xs) (codes "=")
ends_with-cons b x xs =
    let n : suc (suc (length xs)) - 1 ≡ suc (suc (length xs) - 1) = omega arith in
    rw n refl

escape_in-take : (n : ℕ) (bs : List ℕ) → escape_in bs ≡ None → escape_in (take n bs) ≡ None
escape_in-take zero bs none = refl
escape_in-take (suc n) [] none = refl
escape_in-take (suc zero) (b ∷ bs) none = refl
escape_in-take (suc (suc n)) (b ∷ []) none = refl
escape_in-take (suc (suc zero)) (b ∷ c ∷ bs) none = refl
escape_in-take (suc (suc (suc n))) (b ∷ c ∷ []) none = refl
escape_in-take (suc (suc (suc n))) (b ∷ c ∷ d ∷ bs) none = none

trimmed_text-byte : (broken : Bool) (b x : ℕ) (xs : List ℕ) → escape_in (b ∷ x ∷ xs) ≡ None
    → trimmed_text (b ∷ x ∷ xs) broken ≡ b ∷ trimmed_text (x ∷ xs) broken
trimmed_text-byte broken b x xs none = go (ends_with nat_eq (x ∷ xs) (codes "=")) refl
  where
    go : (v : Bool) → ends_with nat_eq (x ∷ xs) (codes "=") ≡ v → trimmed_text (b ∷ x ∷ xs) broken ≡ b ∷ trimmed_text (x ∷ xs) broken
    go true e =
        let n : suc (suc (length xs)) - 1 ≡ suc (length xs) = omega arith in
        let m : suc (length xs) - 1 ≡ length xs = omega arith in
        rw (ends_with-cons b x xs, e, n, m) (at_other b (take (length xs) (x ∷ xs)) (escape_in-take (suc (length xs)) (b ∷ x ∷ xs) none))
    go false e = rw (ends_with-cons b x xs, e) (ap (λ t. t ++ (if broken then 10 ∷ [] else [])) (at_other b (x ∷ xs) none))

-- ---- the four cases

abbrev break : Bool → List ℕ
break broken = if broken then 10 ∷ [] else []

at_line_end : (broken : Bool) (rest : List ℕ) → is_blank rest ≡ true → line_text rest broken ≡ break broken
at_line_end broken rest white = ap (λ t. trimmed_text t broken) (trim_end-white rest white)

at_soft_break : (broken : Bool) (rest : List ℕ) → is_blank rest ≡ true → line_text (61 ∷ rest) broken ≡ []
at_soft_break broken rest white =
    ap (λ t. trimmed_text t broken) (trim_end-cons 61 rest refl ∙ ap (λ t. 61 ∷ t) (trim_end-white rest white))

last_byte : (broken : Bool) (b : ℕ) → (b == 61 && true) ≡ false → trimmed_text (b ∷ []) broken ≡ b ∷ break broken
last_byte broken b other = elim (cases_eq b 61) [
  | inl is ↦ absurd (not_both (b == 61) (first_other (b == 61) other) (eq-eqb b 61 is))
  | inr ne ↦ rw (ne_eqb 61 b (λ e. ne (sym e))) refl
]

at_byte : (broken : Bool) (b : ℕ) (rest : List ℕ) → is_blank (b ∷ rest) ≡ false → (b == 61 && is_blank rest) ≡ false
    → escape_in (b ∷ rest) ≡ None → line_text (b ∷ rest) broken ≡ b ∷ line_text rest broken
at_byte broken b [] other hard none = ap (λ t. trimmed_text t broken) (trim_end-cons b [] other) ∙ last_byte broken b hard
at_byte broken b (r ∷ rs) other hard none = go (is_blank (r ∷ rs)) refl
  where
    go : (v : Bool) → is_blank (r ∷ rs) ≡ v → line_text (b ∷ r ∷ rs) broken ≡ b ∷ line_text (r ∷ rs) broken
    go true white =
        ap (λ t. trimmed_text t broken) (trim_end-cons b (r ∷ rs) other ∙ ap (λ t. b ∷ t) (trim_end-white (r ∷ rs) white))
        ∙ last_byte broken b (rw white at hard)
        ∙ ap (λ t. b ∷ t) (sym (at_line_end broken (r ∷ rs) white))
    go false more =
        let n = length rs - suffix_len is_white rs in
        let tail = trim_end-cons r rs more in
        ap (λ t. trimmed_text t broken) (trim_end-cons b (r ∷ rs) other ∙ ap (λ t. b ∷ t) tail)
        ∙ trimmed_text-byte broken b r (trim_end rs) (escape_in-take (suc (suc n)) (b ∷ r ∷ rs) none)
        ∙ ap (λ t. b ∷ trimmed_text t broken) (sym tail)

digit_alone : (b v : ℕ) → digit_of b ≡ Some v → (is_white b ≡ false) × (eqb 61 b ≡ false)
digit_alone b v e = elim (cases_eq b 32) [
  | inl is ↦ (let none : None ≡ Some v = rw is at e in absurd cc)
  | inr not_space ↦ elim (cases_eq b 9) [
    | inl is ↦ (let none : None ≡ Some v = rw is at e in absurd cc)
    | inr not_tab ↦ elim (cases_eq b 61) [
      | inl is ↦ (let none : None ≡ Some v = rw is at e in absurd cc)
      | inr not_sign ↦ (rw (ne_eqb b 32 not_space, ne_eqb b 9 not_tab) refl, ne_eqb 61 b (λ same. not_sign (sym same)))
    ]
  ]
]

trimmed_text-escape : (broken : Bool) (high low v : ℕ) (t : List ℕ) → eqb 61 low ≡ false → ((bs : List ℕ) → escape_in (61 ∷ high ∷ low ∷ bs) ≡ Some v)
    → trimmed_text (61 ∷ high ∷ low ∷ t) broken ≡ v ∷ trimmed_text t broken
trimmed_text-escape broken high low v [] other e =
    rw other (ap (λ t. t ++ break broken) (at_escape v (61 ∷ high ∷ low ∷ []) (e [])))
trimmed_text-escape broken high low v (x ∷ xs) other e = go (ends_with nat_eq (x ∷ xs) (codes "=")) refl
  where
    last : ends_with nat_eq (61 ∷ high ∷ low ∷ x ∷ xs) (codes "=") ≡ ends_with nat_eq (x ∷ xs) (codes "=")
    last = ends_with-cons 61 high (low ∷ x ∷ xs) ∙ ends_with-cons high low (x ∷ xs) ∙ ends_with-cons low x xs

    go : (w : Bool) → ends_with nat_eq (x ∷ xs) (codes "=") ≡ w → trimmed_text (61 ∷ high ∷ low ∷ x ∷ xs) broken ≡ v ∷ trimmed_text (x ∷ xs) broken
    go true is =
        let n : suc (suc (suc (suc (length xs)))) - 1 ≡ suc (suc (suc (length xs))) = omega arith in
        let m : suc (length xs) - 1 ≡ length xs = omega arith in
        rw (last, is, n, m) (at_escape v (61 ∷ high ∷ low ∷ take (length xs) (x ∷ xs)) (e (take (length xs) (x ∷ xs))))
    go false is = rw (last, is) (ap (λ t. t ++ break broken) (at_escape v (61 ∷ high ∷ low ∷ x ∷ xs) (e (x ∷ xs))))

at_digits : (broken : Bool) (high low h l : ℕ) (rest : List ℕ) → digit_of high ≡ Some h → digit_of low ≡ Some l
    → line_text (61 ∷ high ∷ low ∷ rest) broken ≡ (16 * h + l) ∷ line_text rest broken
at_digits broken high low h l rest e f =
    let one = digit_alone high h e in
    let two = digit_alone low l f in
    let tail : trim_end (low ∷ rest) ≡ low ∷ trim_end rest = trim_end-cons low rest (rw two.0 refl) in
    let back : trim_end (high ∷ low ∷ rest) ≡ high ∷ low ∷ trim_end rest = trim_end-cons high (low ∷ rest) (rw one.0 refl) ∙ ap (λ t. high ∷ t) tail in
    ap (λ t. trimmed_text t broken) (trim_end-cons 61 (high ∷ low ∷ rest) refl ∙ ap (λ t. 61 ∷ t) back)
    ∙ trimmed_text-escape broken high low (16 * h + l) (trim_end rest) two.1 (λ bs. of_digits high low h l bs e f)

-- ---- the relation

-- a line decodes to no other text than the function gives
line_text_alone : (broken : Bool) (line out : List ℕ) → LineText broken line out → out ≡ line_text line broken
line_text_alone broken _ _ (line_end rest white) = sym (at_line_end broken rest white)
line_text_alone broken _ _ (soft_break rest white) = sym (at_soft_break broken rest white)
line_text_alone broken _ _ (an_escape high low h l rest out e f more) =
    ap (λ t. (16 * h + l) ∷ t) (line_text_alone broken rest out more) ∙ sym (at_digits broken high low h l rest e f)
line_text_alone broken _ _ (a_byte b rest out other hard none more) =
    ap (λ t. b ∷ t) (line_text_alone broken rest out more) ∙ sym (at_byte broken b rest other hard none)

of_escape : (broken : Bool) (c v : ℕ) (cs : List ℕ) → escape_in (c ∷ cs) ≡ Some v → LineText broken (drop 2 cs) (line_text (drop 2 cs) broken)
    → LineText broken (c ∷ cs) (line_text (c ∷ cs) broken)
of_escape broken c v [] e more = absurd cc
of_escape broken c v (high ∷ []) e more = absurd cc
of_escape broken c v (high ∷ low ∷ rest) e more = elim (cases_eq c 61) [
  | inl is ↦ (
      let d = digits_of v (digit_of high) (digit_of low) (rw (eq-eqb c 61 is) at e) in
      subst (λ b. LineText broken (b ∷ high ∷ low ∷ rest) (line_text (b ∷ high ∷ low ∷ rest) broken)) (sym is)
      (subst (λ t. LineText broken (61 ∷ high ∷ low ∷ rest) t) (sym (at_digits broken high low d.0 d.1 rest d.2 d.3))
      (an_escape high low d.0 d.1 rest (line_text rest broken) d.2 d.3 more)))
  | inr other ↦ (let none : None ≡ Some v = rw (ne_eqb c 61 other) at e in absurd cc)
]

of_soft_break : (broken : Bool) (c : ℕ) (cs : List ℕ) → (c == 61 && is_blank cs) ≡ true → LineText broken (c ∷ cs) (line_text (c ∷ cs) broken)
of_soft_break broken c cs soft =
    let b = and_parts (c == 61) (is_blank cs) soft in
    subst (λ a. LineText broken (a ∷ cs) (line_text (a ∷ cs) broken)) (sym (eqb-true c 61 b.0))
    (subst (λ t. LineText broken (61 ∷ cs) t) (sym (at_soft_break broken cs b.1)) (soft_break cs b.1))

of_line : (broken : Bool) (k : ℕ) (cs : List ℕ) → LineText broken (drop k cs) (line_text (drop k cs) broken)
of_line broken zero [] = line_end [] refl
of_line broken (suc k) [] = line_end [] refl
of_line broken (suc k) (c ∷ cs) = of_line broken k cs
of_line broken zero (c ∷ cs) =
    go (is_blank (c ∷ cs)) refl (c == 61 && is_blank cs) refl (escape_in (c ∷ cs)) refl (of_line broken 0 cs) (of_line broken 2 cs)
  where
    go : (white : Bool) → is_blank (c ∷ cs) ≡ white → (soft : Bool) → (c == 61 && is_blank cs) ≡ soft
        → (byte : Option ℕ) → escape_in (c ∷ cs) ≡ byte → LineText broken cs (line_text cs broken)
        → LineText broken (drop 2 cs) (line_text (drop 2 cs) broken) → LineText broken (c ∷ cs) (line_text (c ∷ cs) broken)
    go true w soft s byte e next past = subst (λ t. LineText broken (c ∷ cs) t) (sym (at_line_end broken (c ∷ cs) w)) (line_end (c ∷ cs) w)
    go false w true s byte e next past = of_soft_break broken c cs s
    go false w false s (Some v) e next past = of_escape broken c v cs e past
    go false w false s None e next past =
        subst (λ t. LineText broken (c ∷ cs) t) (sym (at_byte broken c cs w s e)) (a_byte c cs (line_text cs broken) w s e next)

-- a line decodes to the text that the function gives
line_text_decodes : (broken : Bool) (line : List ℕ) → LineText broken line (line_text line broken)
line_text_decodes broken line = of_line broken 0 line

pub lines_decode : (raws : List (List ℕ)) → LinesText raws (flat_map (λ raw. line_text (content raw) (is_broken raw)) raws)
lines_decode [] = no_line
lines_decode (raw ∷ raws) = a_line raw _ raws _ (line_text_decodes (is_broken raw) (content raw)) (lines_decode raws)

pub lines_alone : (raws : List (List ℕ)) (out : List ℕ) → LinesText raws out → out ≡ flat_map (λ raw. line_text (content raw) (is_broken raw)) raws
lines_alone _ _ no_line = refl
lines_alone _ _ (a_line raw text raws out decodes more) =
    ap (λ t. t ++ out) (line_text_alone (is_broken raw) (content raw) text decodes)
    ∙ ap (λ t. line_text (content raw) (is_broken raw) ++ t) (lines_alone raws out more)
