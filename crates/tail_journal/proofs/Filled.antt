-- Bytes that are written one after the other over those from the start on.
use Rattle.std.proofs.Common.{◌≡◌, ℕ, ◌+◌, List, ◌++◌, length, take, drop, sym, ◌∙◌, ap, length-append}
use Rattle.std.proofs.Math.Seq.{take-append_seam, drop-append-add}
use Rattle.tail_journal.proofs.FrameLaws.{drop_twice}

-- what is done has one number more, and the others stay
pub one_more : (done number old before new : List ℕ) → before ≡ done ++ drop (length done) old
    → new ≡ take (length done) before ++ number ++ drop (length done + length number) before
    → new ≡ (done ++ number) ++ drop (length (done ++ number)) old
one_more done number old before new is put =
    let rest = drop (length done) old in
    let first : take (length done) before ≡ done = ap (take (length done)) is ∙ take-append_seam done rest in
    let last : drop (length done + length number) before ≡ drop (length (done ++ number)) old =
    ap (drop (length done + length number)) is ∙ drop-append-add done rest (length number) ∙ drop_twice (length done) (length number) old
    ∙ ap (λ (n : ℕ). drop n old) (sym (length-append done number)) in
    put ∙ (λ i. first i ++ number ++ last i)
