-- A byte at an end of a text.
use Rattle.std.proofs.Common.{◌≡◌, ℕ, suc, ◌+◌, ◌==◌, List, [], ◌∷◌, ◌++◌, drop, Option, Some, None, Bor, ◌≢◌, refl, sym, ap, ◌∙◌, arith, inl, inr, subst}
use Rattle.std.specs.Prelude.{MatchOption, unwrap_or, codes}
use Rattle.std.specs.List.{prefix_len}
use Rattle.std.proofs.lemmas.Bool.{cases_eq, ne_eqb}
use Rattle.kit.proofs.ContentLemmas.{last_of, take_seam, ends_seam}
use Rattle.flowed_text.specs.Flowed.{unstuffed, unspaced}

-- ---- one space

unstuffed-none : (text : List ℕ) → ((rest : List ℕ) → text ≢ 32 ∷ rest) → text ≡ unstuffed text
unstuffed-none [] none = refl
unstuffed-none (b ∷ bs) none = elim (cases_eq 32 b) [
  | inl is ↦ absurd (none bs (ap (λ c. c ∷ bs) (sym is)))
  | inr other ↦ rw (ne_eqb 32 b other) refl
]

pub unstuffed-from_strip : (text : Bor (List ℕ)) (r : Option (Bor (List ℕ)))
    → MatchOption r ((rest : List ℕ) → text.now ≢ 32 ∷ rest) (λ x. text.now ≡ 32 ∷ x.now) → (unwrap_or r text).now ≡ unstuffed text.now
unstuffed-from_strip text None none = unstuffed-none text.now none
unstuffed-from_strip text (Some x) found = rw found refl

unspaced-append : (prefix : List ℕ) → unspaced (prefix ++ (32 ∷ [])) ≡ prefix
unspaced-append prefix = rw (ends_seam prefix (32 ∷ []) (codes " ") refl) (take_seam 1 prefix (32 ∷ []) refl)

unspaced-other : (prefix : List ℕ) (c : ℕ) → (32 ≡ c → ⊥) → prefix ++ (c ∷ []) ≡ unspaced (prefix ++ (c ∷ []))
unspaced-other prefix c other = rw (ends_seam prefix (c ∷ []) (codes " ") refl, ne_eqb 32 c other) refl

unspaced-none : (text : List ℕ) → ((prefix : List ℕ) → text ≢ prefix ++ (32 ∷ [])) → text ≡ unspaced text
unspaced-none [] none = refl
unspaced-none (b ∷ bs) none =
    let e = last_of b bs in
    subst (λ t. t ≡ unspaced t) (sym e.2) (unspaced-other e.0 e.1 (λ is. none e.0 (e.2 ∙ ap (λ c. e.0 ++ (c ∷ [])) (sym is))))

pub unspaced-from_strip : (text : Bor (List ℕ)) (r : Option (Bor (List ℕ)))
    → MatchOption r ((prefix : List ℕ) → text.now ≢ prefix ++ (32 ∷ [])) (λ x. text.now ≡ x.now ++ (32 ∷ [])) → (unwrap_or r text).now ≡ unspaced text.now
unspaced-from_strip text None none = unspaced-none text.now none
unspaced-from_strip text (Some x) found = rw found (sym (unspaced-append x.now))

-- ---- quote marks

pub depth_more : (text rest : List ℕ) → text ≡ 62 ∷ rest
    → (prefix_len (λ b. b == 62) text ≡ 1 + prefix_len (λ b. b == 62) rest) × (drop (prefix_len (λ b. b == 62) text) text ≡ drop (prefix_len (λ b. b == 62) rest) rest)
depth_more text rest is =
    let more : 1 + prefix_len (λ b. b == 62) rest ≡ suc (prefix_len (λ b. b == 62) rest) = omega arith in
    rw is (refl, rw more refl)

pub depth_none : (text : List ℕ) → ((rest : List ℕ) → text ≢ 62 ∷ rest) → prefix_len (λ b. b == 62) text ≡ 0
depth_none [] none = refl
depth_none (b ∷ bs) none = rw (ne_eqb b 62 (λ is. none bs (ap (λ c. c ∷ bs) is))) refl
