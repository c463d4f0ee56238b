-- The frame at the front of bytes.
use Rattle.std.proofs.Common.{◌≡◌, ◌≢◌, ℕ, suc, ◌+◌, ◌<◌, ◌≤◌, List, [], ◌∷◌, length, take, drop, Bool, true, false, ◌&&◌, nat_le, eqb, cond, refl, sym, ◌∙◌, ap, arith, length-drop, length-take}
use Rattle.std.specs.Prelude.{slice_index_or}
use Rattle.std.specs.Int.{w64, from_be_bytes}
use Rattle.std.proofs.lemmas.Bool.Decides.{nat_tests}
use Rattle.tail_journal.specs.Frames.{Frame, body_size, is_whole, frame_of, frames_after, frames, IsWholeFrame, IsFirst}
use Rattle.tail_journal.proofs.FrameLaws.{skip, le_is, long_enough, body_fits}
use Rattle.tail_journal.proofs.Growing.{none_in_nothing, none_after_a_closed_gate}

no_bytes : (bytes : List ℕ) → length bytes ≡ 0 → bytes ≡ []
no_bytes [] e = refl
no_bytes (b ∷ bytes) e = absurd (omega (arith, e))

pub of_no_bytes : (bytes : List ℕ) → length bytes ≡ 0 → frames bytes ≡ []
of_no_bytes bytes e = ap frames (no_bytes bytes e) ∙ none_in_nothing

pub of_a_closed_gate : (bytes : List ℕ) → slice_index_or bytes 0 0 ≢ 1 → frames bytes ≡ []
of_a_closed_gate [] ne = none_in_nothing
of_a_closed_gate (gate ∷ rest) ne = none_after_a_closed_gate gate rest ne

-- ---- after an open gate

le_not : (m n : ℕ) → n < m → nat_le m n ≡ false
le_not m n lt = grind (arith, nat_tests)

and_no : (b : Bool) → b && false ≡ false
and_no true = refl
and_no false = refl

pub too_short : (rest : List ℕ) → length rest < 12 → is_whole rest ≡ false
too_short rest lt = ap (λ (b : Bool). b && nat_le (body_size rest) (length (drop 12 rest))) (le_not 12 (length rest) lt)

pub cut_off : (rest : List ℕ) → length (drop 12 rest) < body_size rest → is_whole rest ≡ false
cut_off rest lt = ap (λ (b : Bool). nat_le 12 (length rest) && b) (le_not (body_size rest) (length (drop 12 rest)) lt) ∙ and_no (nat_le 12 (length rest))

pub is_frame : (rest : List ℕ) → 12 ≤ length rest → body_size rest ≤ length (drop 12 rest) → IsWholeFrame (from_be_bytes w64 (take 8 rest)) (take (body_size rest) (drop 12 rest)) rest
is_frame rest long fits =
    let a = le_is 12 (length rest) long in
    let b = le_is (body_size rest) (length (drop 12 rest)) fits in
    record { whole = λ i. a i && b i; is = refl }

opened : (bytes rest : List ℕ) → slice_index_or bytes 0 0 ≡ 1 → rest ≡ drop 1 bytes → 1 ≤ length bytes → bytes ≡ 1 ∷ rest
opened [] rest is tail le = absurd (omega (arith, le))
opened (b ∷ bytes) rest is tail le = λ i. is i ∷ sym tail i

pub of_no_frame : (bytes rest : List ℕ) → slice_index_or bytes 0 0 ≡ 1 → rest ≡ drop 1 bytes → 1 ≤ length bytes → is_whole rest ≡ false → frames bytes ≡ []
unfolding frames_after
of_no_frame bytes rest is tail le none =
    ap frames (opened bytes rest is tail le) ∙ ap (λ (b : Bool). cond b (frame_of rest ∷ frames_after (12 + body_size rest) rest) []) none

pub of_a_frame : (bytes rest : List ℕ) (base : ℕ) (body : List ℕ) → slice_index_or bytes 0 0 ≡ 1 → rest ≡ drop 1 bytes → 1 ≤ length bytes → IsWholeFrame base body rest → IsFirst base body bytes
unfolding frames_after
of_a_frame bytes rest base body is tail le whole =
    let whole_bytes = opened bytes rest is tail le in
    let same : body_size rest ≡ length body = omega (arith, ap (λ (f : Frame). length f.body) whole.is, length-take (body_size rest) (drop 12 rest), body_fits rest whole.whole) in
    let next : frames_after (12 + body_size rest) rest ≡ frames (drop (13 + length body) bytes) =
    skip (12 + body_size rest) rest ∙ ap (λ (k : ℕ). frames (drop (12 + k) rest)) same ∙ ap frames (one_more (12 + length body) rest) ∙ (λ i. frames (drop (one_on (length body) i) (sym whole_bytes i))) in
    record {
      is = ap frames whole_bytes ∙ ap (λ (b : Bool). cond b (frame_of rest ∷ frames_after (12 + body_size rest) rest) []) whole.whole ∙ (λ i. whole.is i ∷ next i);
      within = omega (arith, ap length whole_bytes, long_enough rest whole.whole, body_fits rest whole.whole, length-drop 12 rest, same);
    }
  where
    one_more : (n : ℕ) (xs : List ℕ) → drop n xs ≡ drop (suc n) (1 ∷ xs)
    one_more n xs = refl

    one_on : (n : ℕ) → suc (12 + n) ≡ 13 + n
    one_on n = omega arith

pub is_nothing : (n : ℕ) → eqb n 0 ≡ true → n ≡ 0
is_nothing n e = grind (arith, nat_tests)

pub is_something : (n : ℕ) → eqb n 0 ≡ false → 1 ≤ n
is_something n e = grind (arith, nat_tests)
