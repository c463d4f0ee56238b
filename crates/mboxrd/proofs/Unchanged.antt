-- Lines that the mail has as they are, one after the other.
use Rattle.std.proofs.Common.{false, ◌≡◌, ◌≢◌, ℕ, ◌+◌, ◌-◌, ◌<◌, List, [], ◌∷◌, ◌++◌, length, take, drop, subst, refl, sym, ap, ◌∙◌, append_assoc, arith}
use Rattle.std.proofs.lemmas.Bool.{and_right}
use Rattle.std.proofs.lemmas.List.{take_all, take_more, take-append-drop, length-drop}
use Rattle.std.proofs.Math.Seq.{take-add}
use Rattle.std.specs.Prelude.{slice_index, slice_range, ◌==◌, Option, Some, None}
use Rattle.memchr.specs.Find.{IsFirstByte, is_byte}
use Rattle.mboxrd.specs.Remaining.{push}
use Rattle.mboxrd.specs.LineStates.{remaining_from, StepsTo}
use Rattle.mboxrd.specs.declared.line_state.Preceding.TheVariants.{Text}
use Rattle.mboxrd.specs.declared.line_state.LineState.{LineState}
use Rattle.mboxrd.specs.declared.line_state.LineState.TheVariants.{Start, Inside}
use Rattle.mboxrd.proofs.Stepping.{steps_start_other, steps_inside, steps_inside_line}

-- the first bytes of a list are added to the mail as they are
abbrev pub Unchanged : List ℕ → ℕ → LineState → Type 0
Unchanged l n next = StepsTo Inside (take n l) (take n l) (Some next)

steps_then : (first mid last : LineState) (x y added more : List ℕ) → StepsTo first x added (Some mid) → StepsTo mid y more (Some last) → StepsTo first (x ++ y) (added ++ more) (Some last)
steps_then first mid last x y added more f g = (
  g.0,
  λ bs. ap (remaining_from first) (append_assoc x y bs) ∙ f.1 (y ++ bs) ∙ ap (push added) (g.1 bs) ∙ rw append_assoc refl,
)

unchanged_more : (l y : List ℕ) (n m : ℕ) (mid last : LineState) → take m l ≡ take n l ++ y → Unchanged l n mid → StepsTo mid y y (Some last) → Unchanged l m last
unchanged_more l y n m mid last e f g =
    let P : List ℕ → Type 0 = λ z. StepsTo Inside z z (Some last) in
    subst P (sym e) (steps_then Inside mid last (take n l) y (take n l) y f g)

-- where the first LF of the rest is
find_rest : (l : List ℕ) (n : ℕ) (r : Option ℕ) → IsFirstByte (is_byte 10) (slice_range l n (length l)) r → IsFirstByte (is_byte 10) (drop n l) r
find_rest l n r first =
    let P : List ℕ → Type 0 = λ z. IsFirstByte (is_byte 10) z r in
    subst P (take_all (length l - n) (drop n l) (omega (arith, length-drop n l))) first

-- up to the end of the next line
pub unchanged_line : (l : List ℕ) (n : ℕ) (r : Option ℕ) (end : ℕ) → Unchanged l n Inside → IsFirstByte (is_byte 10) (slice_range l n (length l)) r → r ≡ Some end → Unchanged l (n + end + 1) (Start Text)
unchanged_line l n r end before first is =
    let sum : n + end + 1 ≡ n + (end + 1) = omega arith in
    unchanged_more l (take (end + 1) (drop n l)) n (n + end + 1) Inside (Start Text) (ap (λ k. take k l) sum ∙ take-add n (end + 1) l) before (steps_inside_line (drop n l) r end (find_rest l n r first) is)

-- and the first byte of the line after it
pub unchanged_start : (l : List ℕ) (n : ℕ) → Unchanged l n (Start Text) → n < length l → StepsTo (Start Text) (slice_index l n ∷ []) (slice_index l n ∷ []) (Some Inside) → Unchanged l (n + 1) Inside
unchanged_start l n before lt text = unchanged_more l (slice_index l n ∷ []) n (n + 1) (Start Text) Inside (take_more l n 0 lt) before text

-- where no line ends in the rest
pub unchanged_rest : (l : List ℕ) (n : ℕ) (r : Option ℕ) → Unchanged l n Inside → IsFirstByte (is_byte 10) (slice_range l n (length l)) r → r ≡ None → Unchanged l (length l) Inside
unchanged_rest l n r before first is =
    unchanged_more l (drop n l) n (length l) Inside Inside (take_all (length l) l (omega arith) ∙ sym (take-append-drop n l)) before (steps_inside (drop n l) r (find_rest l n r first) is)

-- another byte than LF, CR and `>`
pub steps_text : (b : ℕ) → b ≢ 10 → b ≢ 13 → b ≢ 62 → StepsTo (Start Text) (b ∷ []) (b ∷ []) (Some Inside)
steps_text b x y z = steps_start_other Text b x y z (and_right (b == 70) false refl)
