-- From the gate of a new slot to the end of clearing no group of T is applied.
use Rattle.std.proofs.Common.{◌≡◌, ℕ, zero, suc, ◌+◌, ◌^◌, ◌<◌, ◌≤◌, List, [], ◌∷◌, length, take, Bool, true, ◌&&◌, nat_lt, nat_le, eqb, cond, Result, Ok, Err, inl, inr, refl, sym, ◌∙◌, ap, subst, arith}
use Rattle.std.proofs.lemmas.Bool.{cases_Bool}
use Rattle.std.proofs.lemmas.Bool.Decides.{nat_tests}
use Rattle.std.specs.List.{AllByRecursion}
use Rattle.std.specs.Int.{w16, w64}
use Rattle.mailbox_model.specs.declared.change.Change.{Change}
use Rattle.card_record.specs.Reading.{number_at}
use Rattle.state_image.specs.Images.{lines_at, traces_at}
use Rattle.tail_journal.specs.declared.body.Few.{Few}
use Rattle.tail_journal.proofs.SpellingLaws.{few_is}
use Rattle.tail_journal.specs.declared.body.Head.{Head}
use Rattle.card_record.proofs.FieldLaws.{bind_ok, rule_ok, ok_is}
use Rattle.tail_journal.specs.Frames.{Frame, frame_size, total_size, body_size, is_whole, frame_of, frames_after, frames}
use Rattle.tail_journal.specs.Groups.{Applied, Reading, few_at, few_of, offsets_at, head_at, changes_at, alone, body_at, position_after, placed, within_limit, nothing_more, with_first, applied, reading_on}
use Rattle.tail_journal.specs.Tails.{ReadsAll, AppliesNothing}
use Rattle.tail_journal.proofs.FrameLaws.{and_left, and_right, le_of, total_fits, whole_of}
use Rattle.tail_journal.proofs.ReadingLaws.{skipped, applies, stops, ends_within}

abbrev pub Below : ℕ → List Frame → Type 0
Below count fs = AllByRecursion (λ frame. frame.base < count) fs

below_more : (m n : ℕ) (fs : List Frame) → m ≤ n → Below m fs → Below n fs
below_more m n [] le b = tt
below_more m n (f ∷ fs) le b = (omega (arith, b.0), below_more m n fs le b.1)

-- each frame of bytes that are cut is one of the bytes
below_cut : (count k n : ℕ) (bytes : List ℕ) → Below count (frames_after n bytes) → Below count (frames_after n (take k bytes))
unfolding frames_after
below_cut count zero n bytes all = tt
below_cut count (suc k) n [] all = all
below_cut count (suc k) (suc n) (b ∷ bytes) all = below_cut count k n bytes all
below_cut count (suc k) zero (gate ∷ rest) all = elim (cases_Bool (eqb gate 1 && is_whole (take k rest))) [
  | inl both ↦
      let gate_open : eqb gate 1 ≡ true = and_left (eqb gate 1) (is_whole (take k rest)) both in
      let whole = and_right (eqb gate 1) (is_whole (take k rest)) both in
      let same = whole_of k rest whole in
      let full : eqb gate 1 && is_whole rest ≡ true = (λ i. gate_open i && same.whole i) in
      let was = subst (λ (b : Bool). Below count (cond b (frame_of rest ∷ frames_after (12 + body_size rest) rest) [])) full all in
      subst (λ (b : Bool). Below count (cond b (frame_of (take k rest) ∷ frames_after (12 + body_size (take k rest)) (take k rest)) [])) (sym both)
      (subst (λ (f : Frame). f.base < count) (sym same.frame) was.0, subst (λ (j : ℕ). Below count (frames_after (12 + j) (take k rest))) (sym same.size) (below_cut count k (12 + body_size rest) rest was.1))
  | inr neither ↦ subst (λ (b : Bool). Below count (cond b (frame_of (take k rest) ∷ frames_after (12 + body_size (take k rest)) (take k rest)) [])) (sym neither) tt
]

less_is : (m n : ℕ) → m < n → nat_lt m n ≡ true
less_is m n lt = grind (arith, nat_tests)

is_less : (m n : ℕ) → nat_lt m n ≡ true → m < n
is_less m n e = grind (arith, nat_tests)

-- from a count above each base none is applied
none_applied : (fs : List Frame) (at count : ℕ) → Below count fs → reading_on at count fs ≡ Ok (nothing_more (at + total_size fs) count)
none_applied [] at count b = let e : at ≡ at + 0 = omega arith in ap (λ (k : ℕ). Ok (nothing_more k count)) e
none_applied (f ∷ fs) at count b =
    let e : at + frame_size f + total_size fs ≡ at + (frame_size f + total_size fs) = omega arith in
    skipped f fs at count (less_is f.base count b.0) ∙ none_applied fs (at + frame_size f) count b.1 ∙ ap (λ (k : ℕ). Ok (nothing_more k count)) e

-- ---- a group that is applied has a change

few_some : (bytes : List ℕ) (x : Few × List ℕ) → few_at bytes ≡ Ok x → 1 ≤ x.0.changes
few_some bytes x e =
    let b = bind_ok (number_at w16 bytes) (λ n. few_of (length bytes) n.0 n.1) x e in
    (few_is (length bytes) b.0.0 b.0.1 x b.2).1

offsets_changes : (few : Few) (bytes : List ℕ) (x : Head × List ℕ) → offsets_at few bytes ≡ Ok x → few.changes ≡ x.0.changes
unfolding offsets_at
offsets_changes few bytes x e =
    let a = bind_ok (number_at w64 bytes) _ x e in
    let b = bind_ok (number_at w64 a.0.1) _ x a.2 in
    let c = bind_ok (lines_at b.0.0 b.0.1) _ x b.2 in
    let d = bind_ok (traces_at few.traced c.0.1) _ x c.2 in
    let head : Head = record { changes = few.changes; mbox = a.0.0; steps = b.0.0; lines = c.0.0; mbox_trace = d.0.0.0; steps_trace = d.0.0.1 } in
    let last : (head, d.0.1) ≡ x = ok_is (head, d.0.1) x d.2 in
    ap (λ (y : Head × List ℕ). y.0.changes) last

head_some : (bytes : List ℕ) (x : Head × List ℕ) → head_at bytes ≡ Ok x → 1 ≤ x.0.changes
unfolding head_at
head_some bytes x e =
    let b = bind_ok (few_at bytes) _ x e in
    subst (λ (n : ℕ). 1 ≤ n) (offsets_changes b.0.0 b.0.1 x b.2) (few_some bytes b.0 b.1)

body_some : (end : ℕ) (bytes : List ℕ) (x : Head × List (ℕ × Change)) → body_at end bytes ≡ Ok x → 1 ≤ x.0.changes
unfolding body_at
body_some end bytes x e =
    let b = bind_ok (head_at bytes) _ x e in
    let c = bind_ok (alone (changes_at end b.0.0.changes b.0.1)) _ x b.2 in
    let both : Head × List (ℕ × Change) = (b.0.0, c.0) in
    let last : both ≡ x = ok_is both x c.2 in
    subst (λ (y : Head × List (ℕ × Change)). 1 ≤ y.0.changes) last (head_some bytes b.0 b.1)

placed_count : (base start size end : ℕ) (bytes : List ℕ) (x : Result (Head × List (ℕ × Change)) ℕ) (group : Applied) → body_at end bytes ≡ x → placed base start size x ≡ Ok group → base < group.position.count
placed_count base start size end bytes (Err left) group read e = absurd cc
placed_count base start size end bytes (Ok body) group read e =
    let made : Applied = record { position = position_after base body.0; changes = body.1 } in
    let is : made ≡ group = ok_is made group e in
    let some : 1 ≤ body.0.changes = body_some end bytes body read in
    subst (λ (g : Applied). base < g.position.count) is (omega (arith, some))

applied_count : (at : ℕ) (frame : Frame) (group : Applied) → applied at frame ≡ Ok group → frame.base < group.position.count
applied_count at frame group e =
    let end = at + frame_size frame in
    let b = bind_ok (placed frame.base (at + 13) (length frame.body) (body_at end frame.body)) (within_limit at) group e in
    let r = rule_ok (nat_le b.0.position.count (2 ^ 62)) (at + 1) b.0 group b.2 in
    subst (λ (g : Applied). frame.base < g.position.count) r.1 (placed_count frame.base (at + 13) (length frame.body) end frame.body (body_at end frame.body) b.0 refl b.1)

eq_of : (m n : ℕ) → eqb m n ≡ true → m ≡ n
eq_of m n e = grind (arith, nat_tests)

-- where reading comes to the end of the frames, each base is below the count after them
pub all_below : (fs : List Frame) (at count : ℕ) (r : Reading) → reading_on at count fs ≡ Ok r → r.end ≡ at + total_size fs → (count ≤ r.count) × Below r.count fs
all_below [] at count r e end = let is : nothing_more at count ≡ r = ok_is (nothing_more at count) r e in (omega (arith, ap (λ (x : Reading). x.count) is), tt)
all_below (f ∷ fs) at count r e end = elim (cases_Bool (nat_lt f.base count)) [
  | inl less ↦
      let h = all_below fs (at + frame_size f) count r (sym (skipped f fs at count less) ∙ e) (omega (arith, end)) in
      (h.0, (omega (arith, is_less f.base count less, h.0), h.1))
  | inr not_less ↦ elim (cases_Bool (eqb f.base count)) [
    | inl same ↦
        let b = bind_ok (applied at f) _ r (sym (applies f fs at count not_less same) ∙ e) in
        let d = bind_ok (reading_on (at + frame_size f) b.0.position.count fs) (λ rest. Ok (with_first b.0 rest)) r b.2 in
        let is : with_first b.0 d.0 ≡ r = ok_is (with_first b.0 d.0) r d.2 in
        let last : d.0.count ≡ r.count = ap (λ (x : Reading). x.count) is in
        let h = all_below fs (at + frame_size f) b.0.position.count d.0 d.1 (omega (arith, end, ap (λ (x : Reading). x.end) is)) in
        let more = applied_count at f b.0 b.1 in
        (omega (arith, more, h.0, last, eq_of f.base count same), (omega (arith, more, h.0, last), subst (λ (n : ℕ). Below n fs) last h.1))
    | inr other ↦
        let is : nothing_more at count ≡ r = ok_is (nothing_more at count) r (sym (stops f fs at count not_less other) ∙ e) in
        absurd (omega (arith, ap (λ (x : Reading). x.end) is, end))
  ]
]

pub none_counts : (count number k : ℕ) (bytes : List ℕ) (r : Reading) → ReadsAll count bytes r → r.count ≤ number → AppliesNothing number (take k bytes)
none_counts count number k bytes r all le =
    let within = ends_within (frames bytes) 0 count r all.is in
    let fits = total_fits 0 bytes (omega arith) in
    let below = all_below (frames bytes) 0 count r all.is (omega (arith, within.1, fits, all.end)) in
    let prefix = below_cut number k 0 bytes (below_more r.count number (frames bytes) le below.1) in
    none_applied (frames (take k bytes)) 0 number prefix ∙ ap (λ (end : ℕ). Ok (nothing_more end number)) (omega arith)
