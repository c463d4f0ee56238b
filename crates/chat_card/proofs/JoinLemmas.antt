-- Texts that are joined one by one.
use Rattle.std.proofs.Common.{◌≡◌, ℕ, List, [], ◌∷◌, ◌++◌, length, refl, sym, ap, ◌∙◌, append_assoc, arith}
use Rattle.std.specs.Prelude.{◌==◌, if◌then◌else◌}
use Rattle.std.specs.List.{join_with_byte}
use Rattle.std.proofs.lemmas.Bool.{ne_eqb}

after : (first : List ℕ) (more : List (List ℕ)) (text : List ℕ) → join_with_byte 10 (first ∷ (more ++ text ∷ [])) ≡ join_with_byte 10 (first ∷ more) ++ (10 ∷ text)
after first [] text = refl
after first (second ∷ more) text =
    ap (λ (t : List ℕ). first ++ (10 ∷ t)) (after second more text) ∙ sym (append_assoc first (10 ∷ join_with_byte 10 (second ∷ more)) (10 ∷ text))

-- one more text
pub joined-push : (texts : List (List ℕ)) (text : List ℕ)
    → join_with_byte 10 (texts ++ text ∷ []) ≡ join_with_byte 10 texts ++ (if length texts == 0 then text else 10 ∷ text)
joined-push [] text = refl
joined-push (first ∷ more) text = rw (ne_eqb (length (first ∷ more)) 0 (λ none. omega (arith, none))) (after first more text)
