-- Where bytes are cut, one byte after the other.
use Rattle.std.proofs.Common.{◌≡◌, ℕ, suc, ◌+◌, Bool, true, false, cond, ltb, List, [], ◌∷◌, length, Option, Some, None, refl, sym, ◌∙◌, arith, inl, inr}
use Rattle.std.specs.Prelude.{◌==◌, option_map}
use Rattle.std.specs.List.{position_or_len}
use Rattle.std.proofs.lemmas.Bool.{cases_lt, lt-ltb, le-ltb}
use Rattle.kit.specs.Cuts.{parts_at, split_once}

-- a byte put before bytes that are cut
abbrev pub put_before : ℕ → Option (List ℕ × List ℕ) → Option (List ℕ × List ℕ)
put_before b parts = option_map (λ (p : List ℕ × List ℕ). (b ∷ p.0, p.1)) parts

parts-further : (b : ℕ) (bs : List ℕ) (n : ℕ) (found : Bool)
    → option_map (parts_at (b ∷ bs)) (cond found (Some (suc n)) None) ≡ put_before b (option_map (parts_at bs) (cond found (Some n) None))
parts-further b bs n true = let next : suc n + 1 ≡ suc (n + 1) = omega arith in rw next refl
parts-further b bs n false = refl

ltb-suc : (m n : ℕ) → ltb (suc m) (suc n) ≡ ltb m n
ltb-suc m n = elim (cases_lt m n) [
  | inl lt ↦ lt-ltb (suc m) (suc n) (omega arith) ∙ sym (lt-ltb m n lt)
  | inr le ↦ le-ltb (suc m) (suc n) (omega arith) ∙ sym (le-ltb m n le)
]

-- the byte that is wanted is first, or further on
pub split_once-here : (b : ℕ) (bs : List ℕ) (wanted : ℕ) → (b == wanted) ≡ true → split_once (b ∷ bs) wanted ≡ Some ([], bs)
split_once-here b bs wanted is = let inside : ltb 0 (suc (length bs)) ≡ true = lt-ltb 0 (suc (length bs)) (omega arith) in rw (is, inside) refl

pub split_once-further : (b : ℕ) (bs : List ℕ) (wanted : ℕ) → (b == wanted) ≡ false → split_once (b ∷ bs) wanted ≡ put_before b (split_once bs wanted)
split_once-further b bs wanted other =
    let n = position_or_len (λ c. c == wanted) bs in
    let next : 1 + n ≡ suc n = omega arith in
    rw (other, next, ltb-suc n (length bs)) (parts-further b bs n (ltb n (length bs)))
