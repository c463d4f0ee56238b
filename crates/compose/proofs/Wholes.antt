-- Bytes that end a line are lines of their own, whatever follows.
use Rattle.std.proofs.Common.{◌≡◌, ℕ, ◌==◌, List, [], ◌∷◌, ◌++◌, refl, sym, ap, ◌∙◌, inl, inr}
use Rattle.std.proofs.lemmas.Bool.{cases_Bool}
use Rattle.kit.specs.Lines.{put_before, raw_lines}
use Rattle.compose.proofs.LineEnds.{put_before-lf}
use Rattle.compose.proofs.MailsBack.{IsWhole}

-- bytes have a line
some_line : (b : ℕ) (ls : List (List ℕ)) → (l : List ℕ) × (more : List (List ℕ)) × (put_before b ls ≡ l ∷ more)
some_line b [] = (b ∷ [], [], refl)
some_line b (l ∷ ls) = elim (cases_Bool (b == 10)) [ inl lf ↦ (b ∷ [], l ∷ ls, rw lf refl) | inr other ↦ (b ∷ l, ls, rw other refl) ]

put_before-append : (b : ℕ) (l : List ℕ) (ls rest : List (List ℕ)) → put_before b ((l ∷ ls) ++ rest) ≡ put_before b (l ∷ ls) ++ rest
put_before-append b l ls rest = elim (cases_Bool (b == 10)) [ inl lf ↦ rw lf refl | inr other ↦ rw other refl ]

first_of : (bs : List ℕ) → (l : List ℕ) × (more : List (List ℕ)) × (raw_lines (bs ++ 10 ∷ []) ≡ l ∷ more)
first_of [] = (10 ∷ [], [], refl)
first_of (b ∷ bs) = some_line b (raw_lines (bs ++ 10 ∷ []))

ended_by : (bs rest : List ℕ) → raw_lines ((bs ++ 10 ∷ []) ++ rest) ≡ raw_lines (bs ++ 10 ∷ []) ++ raw_lines rest
ended_by [] rest = put_before-lf (raw_lines rest)
ended_by (b ∷ bs) rest =
    let e = first_of bs in
    ap (put_before b) (ended_by bs rest ∙ ap (λ (ls : List (List ℕ)). ls ++ raw_lines rest) e.2)
    ∙ put_before-append b e.0 e.1 (raw_lines rest)
    ∙ ap (λ ls. put_before b ls ++ raw_lines rest) (sym e.2)

pub whole_ended : (bs : List ℕ) → IsWhole (bs ++ 10 ∷ [])
whole_ended bs = record { more = ended_by bs }
