-- What is read after an append, and in the midst of one.
use Rattle.std.proofs.Common.{◌≡◌, inl, inr, ℕ, ◌+◌, List, [], ◌∷◌, ◌++◌, length, drop, Result, Ok, sym, ◌∙◌, ap, arith, length-append}
use Rattle.std.proofs.lemmas.List.{append-nil}
use Rattle.std.proofs.lemmas.Slice.{between_to_end}
use Rattle.std.specs.List.{between}
use Rattle.outside.specs.declared.shelf.Place.TheVariants.{T}
use Rattle.outside.specs.Places.{Places, Changes}
use Rattle.outside.specs.Moments.{Reached}
use Rattle.card_record.specs.Reading.{◌>>=◌}
use Rattle.tail_journal.specs.Frames.{Frame, frames}
use Rattle.tail_journal.specs.Groups.{Reading, reading_on, reading}
use Rattle.tail_journal.specs.Spelling.{Batch, group_spelled}
use Rattle.tail_journal.specs.Tails.{MayGrow, IsGroup, read_back, with_last, ReadsAll, IsNext, KeepsOrAdds, Adds}
use Rattle.tail_journal.proofs.ReadingLaws.{joined, bytes_on}
use Rattle.tail_journal.proofs.SpellingLaws.{alone_read, group_again}

same_read : (r : Reading) (at : ℕ) → r.end ≡ at → record { groups = r.groups ++ []; count = r.count; end = at } ≡ r
same_read r at end = λ i. record { groups = append-nil r.groups i; count = r.count; end = sym end i }

pub kept : (count : ℕ) (bytes more new : List ℕ) (r : Reading) → ReadsAll count bytes r → new ≡ bytes ++ more → frames more ≡ [] → reading count new ≡ Ok r
kept count bytes more new r all is none =
    ap (reading count) is ∙ bytes_on count bytes more r all.is all.end
    ∙ ap (λ (fs : List Frame). reading_on (length bytes) r.count fs >>= λ q. Ok (joined r q)) none ∙ ap (λ (x : Reading). Ok x) (same_read r (length bytes) all.end)

pub added : (count : ℕ) (bytes group new : List ℕ) (r : Reading) (batch : Batch) → ReadsAll count bytes r → IsNext group r batch → new ≡ bytes ++ group → reading count new ≡ Ok (with_last r batch)
added count bytes group new r batch all next is =
    let at = length bytes in
    let whole = ap (reading count) is ∙ bytes_on count bytes group r all.is all.end in
    let one : reading_on at r.count (frames group) ≡ Ok (alone_read at batch) = (λ i. reading_on at (sym next.base i) (frames (next.text i))) ∙ group_again at batch next.rules in
    whole ∙ ap (λ (x : Result Reading ℕ). x >>= λ q. Ok (joined r q)) one
    ∙ ap (λ (k : ℕ). Ok (record { groups = r.groups ++ read_back k batch ∷ []; count = batch.position.count; end = k + length (group_spelled batch) })) (sym all.end)

pub kept_or_added : (group old new : List ℕ) → MayGrow group old new → KeepsOrAdds group old new
kept_or_added group old new grows count r batch all next = elim grows.part [
  | inl none ↦ inl (kept count old grows.more new r all grows.is none)
  | inr same ↦ inr (added count old group new r batch all next (grows.is ∙ ap (λ (l : List ℕ). old ++ l) same))
]

pub adds : (group old new : List ℕ) → new ≡ old ++ group → Adds group old new
adds group old new is count r batch all next = record {
  is = added count old group new r batch all next is;
  end = omega (arith, ap length is, length-append old group, all.end, ap length next.text);
}

-- a group is its gate and what follows
pub gate_first : (group : List ℕ) → IsGroup group → 1 ∷ between 1 (length group) group ≡ group
gate_first group is =
    ap (λ (l : List ℕ). 1 ∷ l) (between_to_end group 1 (length group) (omega arith)) ∙ ap (λ (l : List ℕ). 1 ∷ drop 1 l) is.text ∙ sym is.text

-- of T in the three places
pub reached_as : (P Q : List ℕ → List ℕ → Type 0) (outcomes : Places → Type 0) → ((old new : List ℕ) → P old new → Q old new) → (c : Places) → Reached outcomes (Changes T P) c → Reached outcomes (Changes T Q) c
reached_as P Q outcomes f c r = let step : Changes T Q r.0 c = (r.2.0, r.2.1, f r.0.t c.t r.2.2) in (r.0, r.1, step)
