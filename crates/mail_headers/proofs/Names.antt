-- The name before the colon of a line.
use Rattle.std.proofs.Common.{◌≡◌, ℕ, zero, suc, ◌-◌, Bool, true, false, ◌==◌, nat_le, ◌&&◌, List, [], ◌∷◌, length, take, Option, Some, None, refl, ap, inl, inr}
use Rattle.std.specs.Prelude.{position, option_map, option_and_then}
use Rattle.std.specs.Char.{is_ascii_graphic}
use Rattle.std.specs.List.{suffix_len}
use Rattle.std.proofs.lemmas.Bool.{cases_Bool, false≢true}
use borrow.Author.Tests.{eqb-true}
use Rattle.kit.specs.Cuts.{parts_at}
use Rattle.kit.specs.Printing.{is_visible}
use Rattle.kit.specs.White.{is_white}
use Rattle.mail_headers.specs.Fields.{named, name_and_rest, continues}

and_false : (b : Bool) → (b && false) ≡ false
and_false true = refl
and_false false = refl

white_is_hidden : (b : ℕ) → is_white b ≡ true → is_ascii_graphic b ≡ false
white_is_hidden b white = elim (cases_Bool (b == 32)) [
  | inl space ↦ ap is_ascii_graphic (eqb-true b 32 space)
  | inr other ↦ ap is_ascii_graphic (eqb-true b 9 (rw other at white))
]

-- no front of bytes that begin with white space is visible
hidden : (n : ℕ) (bytes : List ℕ) → continues bytes ≡ true → is_visible (take n bytes) ≡ false
hidden zero bytes white = refl
hidden (suc n) [] white = refl
hidden (suc n) (b ∷ bs) white = rw (white_is_hidden b white) (and_false (nat_le 1 (length (b ∷ take n bs))))

no_name : (at : ℕ) (line : List ℕ) → continues line ≡ true → named (parts_at line at) ≡ None
no_name zero line white = refl
no_name (suc at) [] white = absurd (false≢true white)
no_name (suc at) (b ∷ bs) white =
    let before = b ∷ take at bs in
    rw (hidden (length before - suffix_len is_white before) before white) refl

no_name_at : (line : List ℕ) (colon : Option ℕ) → continues line ≡ true → option_and_then named (option_map (parts_at line) colon) ≡ None
no_name_at line None white = refl
no_name_at line (Some at) white = no_name at line white

-- a line that continues another has no name
pub name_and_rest-continued : (line : List ℕ) → continues line ≡ true → name_and_rest line ≡ None
name_and_rest-continued line white = no_name_at line (position (λ b. b == 58) line) white
