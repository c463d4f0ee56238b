-- Escapes one after the other, and the relation between bytes and what they decode to.
use Rattle.std.proofs.Common.{◌≡◌, ℕ, ◌+◌, ◌*◌, ◌<◌, List, [], ◌∷◌, ◌++◌, length, get_or, drop, Option, Some, None, refl, sym, ap, ◌∙◌, inl, inr, append_assoc}
use Rattle.std.proofs.lemmas.Bool.{cases_eq, eq-eqb, ne_eqb}
use Rattle.std.proofs.lemmas.List.{drop_more, drop-drop}
use Rattle.std.specs.Prelude.{option_and_then, option_map}
use Rattle.transfer_code.specs.Escapes.{Unescapes, at_end, escape, itself, digit_of, escape_in, unescaped}

pub at_escape : (v : ℕ) (bs : List ℕ) → escape_in bs ≡ Some v → unescaped bs ≡ v ∷ unescaped (drop 3 bs)
at_escape v [] e = absurd cc
at_escape v (b ∷ []) e = absurd cc
at_escape v (b ∷ c ∷ []) e = absurd cc
at_escape v (b ∷ high ∷ low ∷ bs) e = rw e refl

pub at_other : (b : ℕ) (bs : List ℕ) → escape_in (b ∷ bs) ≡ None → unescaped (b ∷ bs) ≡ b ∷ unescaped bs
at_other b [] e = refl
at_other b (c ∷ []) e = refl
at_other b (high ∷ low ∷ bs) e = rw e refl

-- ---- a loop over the bytes

pub after_escape : (i v : ℕ) (out bytes all : List ℕ) → escape_in (drop i bytes) ≡ Some v
    → out ++ unescaped (drop i bytes) ≡ all → (out ++ v ∷ []) ++ unescaped (drop (i + 3) bytes) ≡ all
after_escape i v out bytes all e so_far =
    let step : v ∷ unescaped (drop (i + 3) bytes) ≡ unescaped (drop i bytes) =
    ap (λ (t : List ℕ). v ∷ unescaped t) (sym (drop-drop 3 i bytes)) ∙ sym (at_escape v (drop i bytes) e) in
    append_assoc out (v ∷ []) _ ∙ ap (λ (t : List ℕ). out ++ t) step ∙ so_far

pub after_other : (i : ℕ) (out bytes all : List ℕ) → i < length bytes → escape_in (drop i bytes) ≡ None
    → out ++ unescaped (drop i bytes) ≡ all → (out ++ get_or bytes i 0 ∷ []) ++ unescaped (drop (i + 1) bytes) ≡ all
after_other i out bytes all lt e so_far =
    let more = drop_more bytes i 0 lt in
    let step : unescaped (drop i bytes) ≡ get_or bytes i 0 ∷ unescaped (drop (i + 1) bytes) =
    ap unescaped more ∙ at_other (get_or bytes i 0) (drop (i + 1) bytes) (ap escape_in (sym more) ∙ e) in
    append_assoc out (get_or bytes i 0 ∷ []) _ ∙ ap (λ (t : List ℕ). out ++ t) (sym step) ∙ so_far

-- ---- the relation

pub of_digits : (high low h l : ℕ) (bs : List ℕ) → digit_of high ≡ Some h → digit_of low ≡ Some l
    → escape_in (61 ∷ high ∷ low ∷ bs) ≡ Some (16 * h + l)
of_digits high low h l bs e f = rw (e, f) refl

-- bytes decode to no others than the function gives
pub decodes_alone : (bytes out : List ℕ) → Unescapes bytes out → out ≡ unescaped bytes
decodes_alone _ _ at_end = refl
decodes_alone _ _ (escape high low h l bs out e f rest) =
    ap (λ (t : List ℕ). (16 * h + l) ∷ t) (decodes_alone bs out rest)
    ∙ sym (at_escape _ (61 ∷ high ∷ low ∷ bs) (of_digits high low h l bs e f))
decodes_alone _ _ (itself b bs out e rest) =
    ap (λ (t : List ℕ). b ∷ t) (decodes_alone bs out rest) ∙ sym (at_other b bs e)

pub digits_of : (v : ℕ) (x y : Option ℕ) → option_and_then (λ h. option_map (λ l. 16 * h + l) y) x ≡ Some v
    → (h : ℕ) × (l : ℕ) × (x ≡ Some h) × (y ≡ Some l) × (16 * h + l ≡ v)
digits_of v None y is = absurd cc
digits_of v (Some h) None is = absurd cc
digits_of v (Some h) (Some l) is = (h, l, refl, refl, cc)

some_escape : (b high low v : ℕ) (bs out : List ℕ) → escape_in (b ∷ high ∷ low ∷ bs) ≡ Some v → Unescapes bs out
    → Unescapes (b ∷ high ∷ low ∷ bs) (v ∷ out)
some_escape b high low v bs out e rest = elim (cases_eq b 61) [
  | inl is ↦ (
      let d = digits_of v (digit_of high) (digit_of low) (rw (eq-eqb b 61 is) at e) in
      rw (is, ← d.4) (escape high low d.0 d.1 bs out d.2 d.3 rest))
  | inr other ↦ (let none : None ≡ Some v = rw (ne_eqb b 61 other) at e in absurd cc)
]

-- bytes decode to what the function gives
pub decodes_to : (bytes : List ℕ) → Unescapes bytes (unescaped bytes)
decodes_to [] = at_end
decodes_to (b ∷ []) = itself b [] [] refl at_end
decodes_to (b ∷ c ∷ []) = itself b (c ∷ []) (c ∷ []) refl (itself c [] [] refl at_end)
decodes_to (b ∷ high ∷ low ∷ bs) = go (escape_in (b ∷ high ∷ low ∷ bs)) refl (decodes_to (high ∷ low ∷ bs)) (decodes_to bs)
  where
    go : (e : Option ℕ) → escape_in (b ∷ high ∷ low ∷ bs) ≡ e → Unescapes (high ∷ low ∷ bs) (unescaped (high ∷ low ∷ bs))
        → Unescapes bs (unescaped bs) → Unescapes (b ∷ high ∷ low ∷ bs) (unescaped (b ∷ high ∷ low ∷ bs))
    go None e next past = rw e (itself b (high ∷ low ∷ bs) _ e next)
    go (Some v) e next past = rw e (some_escape b high low v bs _ e past)
