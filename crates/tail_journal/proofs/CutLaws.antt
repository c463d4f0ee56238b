-- Reading bytes that are cut where reading ended, or after that.
use Rattle.std.proofs.Common.{◌≡◌, ℕ, zero, suc, ◌+◌, ◌<◌, ◌≤◌, List, [], ◌∷◌, ◌++◌, length, take, Bool, true, false, ◌&&◌, nat_lt, eqb, cond, Result, Ok, inl, inr, refl, sym, ◌∙◌, ap, subst, arith, length-take}
use Rattle.std.specs.Bool.{⊤}
use Rattle.std.proofs.lemmas.Bool.{cases_Bool}
use Rattle.std.proofs.lemmas.List.{append-nil}
use Rattle.outside.specs.Crash.{PartlyCut}
use Rattle.card_record.specs.Reading.{◌>>=◌}
use Rattle.card_record.proofs.FieldLaws.{bind_ok, ok_is}
use Rattle.tail_journal.specs.Frames.{Frame, frame_size, total_size, body_size, is_whole, frame_of, frames_after, frames}
use Rattle.tail_journal.specs.Groups.{Applied, Reading, nothing_more, with_first, applied, reading_on, reading}
use Rattle.tail_journal.specs.Tails.{ReadsAll}
use Rattle.tail_journal.proofs.FrameLaws.{and_left, and_right, frame_length, total_fits, whole_of, whole_cut}
use Rattle.tail_journal.proofs.ReadingLaws.{taken, skipped, applies, stops, ends_within}

-- ---- the frames of bytes that are cut

-- Where k bytes are left, the first of these frames is not whole: the frames before it begin at an offset.
abbrev pub IsOver : ℕ → ℕ → List Frame → List Frame → Type 0
IsOver k at before [] = ⊤
IsOver k at before (frame ∷ more) = k < at + (total_size before + frame_size frame)

-- the frames that are left of these, the first of which begins at an offset, where k bytes are left
pub record AreLeft (k at : ℕ) (left frames : List Frame) : Type 0 where
  pub more : List Frame
  pub is : frames ≡ left ++ more
  pub over : IsOver k at left more

over_none : (k at : ℕ) (more : List Frame) → k < at + 13 → IsOver k at [] more
over_none k at [] lt = tt
over_none k at (frame ∷ more) lt = omega (arith, lt)

over_first : (k size : ℕ) (first : Frame) (left more : List Frame) → frame_size first ≡ suc size → IsOver k size left more → IsOver (suc k) 0 (first ∷ left) more
over_first k size first left [] is over = tt
over_first k size first left (frame ∷ more) is over = omega (arith, is, over)

one_byte_more : (k n : ℕ) (left more : List Frame) → IsOver k n left more → IsOver (suc k) (suc n) left more
one_byte_more k n left [] over = tt
one_byte_more k n left (frame ∷ more) over = omega (arith, over)

abbrev from_gate : Bool → List ℕ → List Frame
from_gate is_open rest = cond is_open (frame_of rest ∷ frames_after (12 + body_size rest) rest) []

-- no frame is whole in what is left after the gate
none_left : (k : ℕ) (gate : ℕ) (rest : List ℕ) → eqb gate 1 && is_whole (take k rest) ≡ false → AreLeft (suc k) 0 [] (from_gate (eqb gate 1 && is_whole rest) rest)
none_left k gate rest closed = elim (cases_Bool (eqb gate 1 && is_whole rest)) [
  | inl both ↦
      let whole = and_right (eqb gate 1) (is_whole rest) both in
      let short = whole_cut k rest whole in
      subst (λ (b : Bool). AreLeft (suc k) 0 [] (from_gate b rest)) (sym both) (record {
        more = frame_of rest ∷ frames_after (12 + body_size rest) rest;
        is = refl;
        over = elim short [
          | inl lt ↦ omega (arith, lt, frame_length rest whole)
          | inr is ↦ absurd (let gate_open = and_left (eqb gate 1) (is_whole rest) both in
              let e : true ≡ false = sym (λ i. gate_open i && is i) ∙ closed in cc)
        ];
      })
  | inr neither ↦ subst (λ (b : Bool). AreLeft (suc k) 0 [] (from_gate b rest)) (sym neither) (record { more = []; is = refl; over = tt })
]

pub frames_cut : (k n : ℕ) (bytes : List ℕ) → AreLeft k n (frames_after n (take k bytes)) (frames_after n bytes)
unfolding frames_after
frames_cut zero n bytes = record { more = frames_after n bytes; is = refl; over = over_none 0 n (frames_after n bytes) (omega arith) }
frames_cut (suc k) n [] = record { more = []; is = sym (append-nil (frames_after n [])); over = tt }
frames_cut (suc k) (suc n) (b ∷ bytes) =
    let h = frames_cut k n bytes in
    record { more = h.more; is = h.is; over = one_byte_more k n (frames_after n (take k bytes)) h.more h.over }
frames_cut (suc k) zero (gate ∷ rest) = elim (cases_Bool (eqb gate 1 && is_whole (take k rest))) [
  | inl both ↦
      let cut = take k rest in
      let gate_open : eqb gate 1 ≡ true = and_left (eqb gate 1) (is_whole cut) both in
      let whole = and_right (eqb gate 1) (is_whole cut) both in
      let same = whole_of k rest whole in
      let full : eqb gate 1 && is_whole rest ≡ true = (λ i. gate_open i && same.whole i) in
      let h = frames_cut k (12 + body_size rest) rest in
      let left = frames_after (12 + body_size rest) cut in
      let one : AreLeft (suc k) 0 (frame_of rest ∷ left) (frame_of rest ∷ frames_after (12 + body_size rest) rest) = record {
        more = h.more;
        is = ap (λ (fs : List Frame). frame_of rest ∷ fs) h.is;
        over = over_first k (12 + body_size rest) (frame_of rest) left h.more (let l = frame_length rest same.whole in omega (arith, l)) h.over;
      } in
      let cut_is : from_gate (eqb gate 1 && is_whole cut) cut ≡ frame_of rest ∷ left = ap (λ (b : Bool). from_gate b cut) both ∙ (λ i. same.frame i ∷ frames_after (12 + same.size i) cut) in
      let full_is : from_gate (eqb gate 1 && is_whole rest) rest ≡ frame_of rest ∷ frames_after (12 + body_size rest) rest = ap (λ (b : Bool). from_gate b rest) full in
      subst (λ (fs : List Frame). AreLeft (suc k) 0 fs (from_gate (eqb gate 1 && is_whole rest) rest)) (sym cut_is) (subst (AreLeft (suc k) 0 (frame_of rest ∷ left)) (sym full_is) one)
  | inr neither ↦ subst (λ (b : Bool). AreLeft (suc k) 0 (from_gate b (take k rest)) (from_gate (eqb gate 1 && is_whole rest) rest)) (sym neither) (none_left k gate rest neither)
]

-- ---- what is read of the frames that are left

end_of : (r q : Reading) → r ≡ q → r.end ≡ q.end
end_of r q e = ap (λ (x : Reading). x.end) e

-- where reading ends within k bytes, it stops at a frame that is not whole in them
stops_at : (k at count : ℕ) (more : List Frame) (r : Reading) → reading_on at count more ≡ Ok r → IsOver k at [] more → r.end ≤ k → nothing_more at count ≡ r
stops_at k at count [] r e over le = ok_is (nothing_more at count) r e
stops_at k at count (f ∷ fs) r e over le = elim (cases_Bool (nat_lt f.base count)) [
  | inl less ↦ absurd (let h = ends_within fs (at + frame_size f) count r (sym (skipped f fs at count less) ∙ e) in omega (arith, h.0, over, le))
  | inr not_less ↦ elim (cases_Bool (eqb f.base count)) [
    | inl same ↦ absurd (
        let b = bind_ok (applied at f) _ r (sym (applies f fs at count not_less same) ∙ e) in
        let d = bind_ok (reading_on (at + frame_size f) b.0.position.count fs) (λ rest. Ok (with_first b.0 rest)) r b.2 in
        let is = end_of (with_first b.0 d.0) r (ok_is (with_first b.0 d.0) r d.2) in
        let h = ends_within fs (at + frame_size f) b.0.position.count d.0 d.1 in
        omega (arith, h.0, is, over, le))
    | inr other ↦ ok_is (nothing_more at count) r (sym (stops f fs at count not_less other) ∙ e)
  ]
]

over_next : (k at : ℕ) (f : Frame) (left more : List Frame) → IsOver k at (f ∷ left) more → IsOver k (at + frame_size f) left more
over_next k at f left [] over = tt
over_next k at f left (frame ∷ more) over = omega (arith, over)

reads_left : (k at count : ℕ) (left more : List Frame) (r : Reading) → reading_on at count (left ++ more) ≡ Ok r → IsOver k at left more → r.end ≤ k → reading_on at count left ≡ Ok r
reads_left k at count [] more r e over le = ap (λ (x : Reading). Ok x) (stops_at k at count more r e over le)
reads_left k at count (f ∷ left) more r e over le =
    let fs = left ++ more in
    let next = over_next k at f left more over in
    elim (cases_Bool (nat_lt f.base count)) [
      | inl less ↦ skipped f left at count less ∙ reads_left k (at + frame_size f) count left more r (sym (skipped f fs at count less) ∙ e) next le
      | inr not_less ↦ elim (cases_Bool (eqb f.base count)) [
        | inl same ↦
            let b = bind_ok (applied at f) _ r (sym (applies f fs at count not_less same) ∙ e) in
            let d = bind_ok (reading_on (at + frame_size f) b.0.position.count fs) (λ rest. Ok (with_first b.0 rest)) r b.2 in
            let is : with_first b.0 d.0 ≡ r = ok_is (with_first b.0 d.0) r d.2 in
            let h = reads_left k (at + frame_size f) b.0.position.count left more d.0 d.1 next (omega (arith, end_of (with_first b.0 d.0) r is, le)) in
            let first : taken at f left ≡ (reading_on (at + frame_size f) b.0.position.count left >>= λ rest. Ok (with_first b.0 rest)) = ap (λ (x : Result Applied ℕ). x >>= λ group. reading_on (at + frame_size f) group.position.count left >>= λ rest. Ok (with_first group rest)) b.1 in
            applies f left at count not_less same ∙ first ∙ ap (λ (x : Result Reading ℕ). x >>= λ rest. Ok (with_first b.0 rest)) h ∙ d.2
        | inr other ↦ stops f left at count not_less other ∙ sym (stops f fs at count not_less other) ∙ e
      ]
    ]

-- ---- the same in bytes

pub same_when_cut : (count k : ℕ) (bytes : List ℕ) (r : Reading) → reading count bytes ≡ Ok r → r.end ≤ k → reading count (take k bytes) ≡ Ok r
same_when_cut count k bytes r e le =
    let h = frames_cut k 0 bytes in
    reads_left k 0 count (frames (take k bytes)) h.more r (ap (reading_on 0 count) (sym h.is) ∙ e) h.over le

pub ends_in_bytes : (count : ℕ) (bytes : List ℕ) (r : Reading) → reading count bytes ≡ Ok r → r.end ≤ length bytes
ends_in_bytes count bytes r e = omega (arith, ends_within (frames bytes) 0 count r e, total_fits 0 bytes (omega arith))

-- what a crash may leave of a cut there
pub same_when_partly_cut : (count : ℕ) (bytes new : List ℕ) (r : Reading) → reading count bytes ≡ Ok r → PartlyCut r.end bytes new → reading count new ≡ Ok r
same_when_partly_cut count bytes new r e cut =
    subst (λ (l : List ℕ). reading count l ≡ Ok r) cut.front (same_when_cut count (length new) bytes r e (let le = ends_in_bytes count bytes r e in omega (arith, cut.no_shorter, le)))

-- reading comes to the end of what is left
pub reads_all_when_cut : (count : ℕ) (bytes : List ℕ) (r : Reading) → reading count bytes ≡ Ok r → ReadsAll count (take r.end bytes) r
reads_all_when_cut count bytes r e = record {
  is = same_when_cut count r.end bytes r e (omega arith);
  end = (let le = ends_in_bytes count bytes r e in omega (arith, length-take r.end bytes, le));
}
