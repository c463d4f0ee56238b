-- The lines above a signature, one after the other.
use Rattle.std.proofs.Common.{◌≡◌, ℕ, Bool, true, false, List, [], ◌∷◌, ◌++◌, ap, refl}
use Rattle.std.specs.Prelude.{if◌then◌else◌}
use Rattle.std.proofs.lemmas.List.{append-nil}
use Rattle.flowed_text.specs.Flowed.{text_of}

-- what is written of lines, of which the first is the first of all or follows others
abbrev pub text_after : Bool → List (List ℕ) → List ℕ
text_after first [] = []
text_after first (line ∷ more) = (if first then line else 10 ∷ line) ++ text_after false more

text_of-first : (line : List ℕ) (more : List (List ℕ)) → line ++ text_after false more ≡ text_of (line ∷ more)
text_of-first line [] = append-nil line
text_of-first line (next ∷ more) = ap (λ (t : List ℕ). line ++ (10 ∷ t)) (text_of-first next more)

pub text_after-first : (lines : List (List ℕ)) → text_after true lines ≡ text_of lines
text_after-first [] = refl
text_after-first (line ∷ more) = text_of-first line more
