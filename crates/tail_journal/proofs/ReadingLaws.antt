-- Reading frames from a count, where others follow.
use Rattle.std.proofs.Common.{◌≡◌, ℕ, ◌+◌, ◌≤◌, List, [], ◌∷◌, ◌++◌, length, Bool, true, false, nat_lt, eqb, cond, Result, Ok, Err, inl, inr, refl, sym, ◌∙◌, ap, subst, arith}
use Rattle.std.proofs.lemmas.Bool.{cases_Bool}
use Rattle.card_record.specs.Reading.{◌>>=◌}
use Rattle.card_record.proofs.FieldLaws.{bind_ok, ok_is}
use Rattle.tail_journal.specs.Frames.{Frame, frame_size, total_size, frames}
use Rattle.tail_journal.specs.Groups.{Applied, Reading, nothing_more, with_first, applied, reading_on, reading}
use Rattle.tail_journal.proofs.FrameLaws.{total_fits, frames_then}

-- what is read after the rest
abbrev pub joined : Reading → Reading → Reading
joined r q = record { groups = r.groups ++ q.groups; count = q.count; end = q.end }

-- what is read of a frame with the count as its base, and of those after it
abbrev pub taken : ℕ → Frame → List Frame → Result Reading ℕ
taken at frame more = applied at frame >>= λ group. reading_on (at + frame_size frame) group.position.count more >>= λ rest. Ok (with_first group rest)

module _ (frame : Frame) (more : List Frame) (at count : ℕ) where
  abbrev after : Result Reading ℕ
  after = reading_on (at + frame_size frame) count more

  abbrev chosen : Bool → Bool → Result Reading ℕ
  chosen less same = cond less after (cond same (taken at frame more) (Ok (nothing_more at count)))

  pub skipped : nat_lt frame.base count ≡ true → reading_on at count (frame ∷ more) ≡ reading_on (at + frame_size frame) count more
  skipped less = ap (λ (b : Bool). chosen b (eqb frame.base count)) less

  pub applies : nat_lt frame.base count ≡ false → eqb frame.base count ≡ true → reading_on at count (frame ∷ more) ≡ taken at frame more
  applies less same = λ i. chosen (less i) (same i)

  pub stops : nat_lt frame.base count ≡ false → eqb frame.base count ≡ false → reading_on at count (frame ∷ more) ≡ Ok (nothing_more at count)
  stops less same = λ i. chosen (less i) (same i)

end_of : (r q : Reading) → r ≡ q → r.end ≡ q.end
end_of r q e = ap (λ (x : Reading). x.end) e

abbrev done : Reading → Result Reading ℕ
done r = Ok r

-- reading ends within the frames
pub ends_within : (fs : List Frame) (at count : ℕ) (r : Reading) → reading_on at count fs ≡ Ok r → (at ≤ r.end) × (r.end ≤ at + total_size fs)
ends_within [] at count r e = let is : at ≡ r.end = end_of (nothing_more at count) r (ok_is (nothing_more at count) r e) in (omega (arith, is), omega (arith, is))
ends_within (f ∷ fs) at count r e = elim (cases_Bool (nat_lt f.base count)) [
  | inl less ↦ let h = ends_within fs (at + frame_size f) count r (sym (skipped f fs at count less) ∙ e) in (omega (arith, h.0), omega (arith, h.1))
  | inr not_less ↦ elim (cases_Bool (eqb f.base count)) [
    | inl same ↦
        let b = bind_ok (applied at f) _ r (sym (applies f fs at count not_less same) ∙ e) in
        let d = bind_ok (reading_on (at + frame_size f) b.0.position.count fs) (λ rest. Ok (with_first b.0 rest)) r b.2 in
        let is : d.0.end ≡ r.end = end_of (with_first b.0 d.0) r (ok_is (with_first b.0 d.0) r d.2) in
        let h = ends_within fs (at + frame_size f) b.0.position.count d.0 d.1 in (omega (arith, h.0, is), omega (arith, h.1, is))
    | inr other ↦ let is : at ≡ r.end = end_of (nothing_more at count) r (ok_is (nothing_more at count) r (sym (stops f fs at count not_less other) ∙ e)) in (omega (arith, is), omega (arith, is))
  ]
]

alone : (at count : ℕ) (x : Result Reading ℕ) → x ≡ (x >>= λ q. Ok (joined (nothing_more at count) q))
alone at count (Ok q) = refl
alone at count (Err left) = refl

joined_first : (group : Applied) (r : Reading) (x : Result Reading ℕ) → ((x >>= λ q. Ok (joined r q)) >>= λ rest. Ok (with_first group rest)) ≡ (x >>= λ q. Ok (joined (with_first group r) q))
joined_first group r (Ok q) = refl
joined_first group r (Err left) = refl

-- where reading comes to the end of the frames, those after them are read on from there
pub reads_on : (fs gs : List Frame) (at count : ℕ) (r : Reading) → reading_on at count fs ≡ Ok r → r.end ≡ at + total_size fs → reading_on at count (fs ++ gs) ≡ (reading_on r.end r.count gs >>= λ q. Ok (joined r q))
reads_on [] gs at count r e end =
    let is : nothing_more at count ≡ r = ok_is (nothing_more at count) r e in
    subst (λ (x : Reading). reading_on at count gs ≡ (reading_on x.end x.count gs >>= λ q. Ok (joined x q))) is (alone at count (reading_on at count gs))
reads_on (f ∷ fs) gs at count r e end = elim (cases_Bool (nat_lt f.base count)) [
  | inl less ↦ skipped f (fs ++ gs) at count less ∙ reads_on fs gs (at + frame_size f) count r (sym (skipped f fs at count less) ∙ e) (omega (arith, end))
  | inr not_less ↦ elim (cases_Bool (eqb f.base count)) [
    | inl same ↦
        let b = bind_ok (applied at f) _ r (sym (applies f fs at count not_less same) ∙ e) in
        let d = bind_ok (reading_on (at + frame_size f) b.0.position.count fs) (λ rest. Ok (with_first b.0 rest)) r b.2 in
        let is : with_first b.0 d.0 ≡ r = ok_is (with_first b.0 d.0) r d.2 in
        let next = reads_on fs gs (at + frame_size f) b.0.position.count d.0 d.1 (omega (arith, end, end_of (with_first b.0 d.0) r is)) in
        let first : taken at f (fs ++ gs) ≡ (reading_on (at + frame_size f) b.0.position.count (fs ++ gs) >>= λ rest. Ok (with_first b.0 rest)) = ap (λ (x : Result Applied ℕ). x >>= λ group. reading_on (at + frame_size f) group.position.count (fs ++ gs) >>= λ rest. Ok (with_first group rest)) b.1 in
        applies f (fs ++ gs) at count not_less same ∙ first ∙ ap (λ (x : Result Reading ℕ). x >>= λ rest. Ok (with_first b.0 rest)) next
        ∙ joined_first b.0 d.0 (reading_on d.0.end d.0.count gs)
        ∙ ap (λ (x : Reading). reading_on x.end x.count gs >>= λ q. Ok (joined x q)) is
    | inr other ↦ absurd (let is : at ≡ r.end = end_of (nothing_more at count) r (ok_is (nothing_more at count) r (sym (stops f fs at count not_less other) ∙ e)) in omega (arith, is, end))
  ]
]

-- the same in bytes
pub bytes_on : (count : ℕ) (bytes more : List ℕ) (r : Reading) → reading count bytes ≡ Ok r → r.end ≡ length bytes → reading count (bytes ++ more) ≡ (reading_on (length bytes) r.count (frames more) >>= λ q. Ok (joined r q))
bytes_on count bytes more r e end =
    let within = ends_within (frames bytes) 0 count r e in
    let fits = total_fits 0 bytes (omega arith) in
    let all : total_size (frames bytes) ≡ length bytes = omega (arith, within.1, fits, end) in
    let both : frames (bytes ++ more) ≡ frames bytes ++ frames more = frames_then 0 bytes more (omega arith) (omega (arith, all)) in
    ap (reading_on 0 count) both ∙ reads_on (frames bytes) (frames more) 0 count r e (omega (arith, all, end))
    ∙ ap (λ (at : ℕ). reading_on at r.count (frames more) >>= λ q. Ok (joined r q)) end
