-- What a caller of `lines` knows of them.
use Rattle.std.proofs.Common.{◌≡◌, ℕ, zero, suc, ◌+◌, ◌-◌, ◌≤◌, true, false, ◌==◌, List, [], ◌∷◌, ◌++◌, length, refl, ap, ◌∙◌, arith, length-append}
use Rattle.std.specs.Prelude.{All, if◌then◌else◌}
use Rattle.std.specs.List.{concat}
use Rattle.std.proofs.lemmas.List.{length-take}
use Rattle.kit.specs.Lines.{IsLineWithin, put_before, raw_lines, content, ending_len, placed, lines}

concat-put_before : (b : ℕ) (ls : List (List ℕ)) → concat (put_before b ls) ≡ b ∷ concat ls
concat-put_before b [] = refl
concat-put_before b (l ∷ ls) =
    elim (b == 10) as (λ v. concat (if v then (b ∷ []) ∷ l ∷ ls else (b ∷ l) ∷ ls) ≡ b ∷ (l ++ concat ls)) [ true ↦ refl | false ↦ refl ]

-- the raw lines put together are the bytes again
pub concat-raw_lines : (bytes : List ℕ) → concat (raw_lines bytes) ≡ bytes
concat-raw_lines [] = refl
concat-raw_lines (b ∷ bs) = concat-put_before b (raw_lines bs) ∙ ap (λ xs. b ∷ xs) (concat-raw_lines bs)

length-content : (raw : List ℕ) → length (content raw) ≤ length raw
length-content raw = omega (arith, length-take (length raw - ending_len raw) raw)

placed_within : (len at : ℕ) (ls : List (List ℕ)) → at + length (concat ls) ≤ len → All (IsLineWithin len) (placed at ls)
placed_within len at [] le k d lt = absurd (omega arith)
placed_within len at (l ∷ ls) le zero d lt = record {
  content = omega arith;
  ending = omega (arith, length-content l);
  bytes = omega (arith, length-append l (concat ls));
}
placed_within len at (l ∷ ls) le (suc k) d lt =
    placed_within len (at + length l) ls (omega (arith, length-append l (concat ls))) k d (omega arith)

-- the content of a line ends within the line, and the line within the bytes
pub lines_within : (bytes : List ℕ) → All (IsLineWithin (length bytes)) (lines bytes)
lines_within bytes = placed_within (length bytes) 0 (raw_lines bytes) (omega (arith, ap length (concat-raw_lines bytes)))
