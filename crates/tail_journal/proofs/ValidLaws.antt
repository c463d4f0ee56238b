-- What is read of bytes is valid.
use Rattle.std.proofs.Common.{◌≡◌, ℕ, zero, suc, ◌+◌, ◌-◌, ◌^◌, ◌<◌, ◌≤◌, List, [], ◌∷◌, ◌++◌, length, take, drop, Bool, true, false, ◌&&◌, nat_lt, nat_le, eqb, cond, Result, Ok, Err, inl, inr, refl, sym, ◌∙◌, ap, subst, arith, length-take}
use Rattle.std.proofs.lemmas.Bool.{cases_Bool, cases_lt}
use Rattle.std.proofs.lemmas.List.{drop_at, get_or-take, get_or_past}
use Rattle.std.specs.Int.{w16, w64, to_be_bytes}
use Rattle.std.specs.List.{AllByRecursion}
use Rattle.card_type.specs.Records as records
use Rattle.mailbox_model.specs.declared.change.Change.{Change}
use Rattle.mailbox_model.proofs.Elements.{All-append}
use Rattle.card_record.specs.Reading.{◌>>=◌, number_at, times_of}
use Rattle.card_record.specs.Spelling.{IsBytes}
use Rattle.card_record.proofs.FieldLaws.{IsBytes-drop, bind_ok, rule_ok, ok_is, wide64, number_law, ruled_law}
use Rattle.state_image.specs.Changes.{change_at, change_spelled, FitsChange}
use Rattle.state_image.specs.Images.{lines_at, traces_at}
use Rattle.state_image.proofs.ImageLaws.{traces_take}
use Rattle.tail_journal.specs.declared.body.Few.{Few}
use Rattle.state_image.proofs.ChangeLaws.{change_taken}
use Rattle.tail_journal.specs.declared.body.Head.{Head}
use Rattle.tail_journal.specs.Frames.{Frame, frame_size, body_size, is_whole, frame_of, frames_after, frames}
use Rattle.tail_journal.specs.Groups.{Applied, Reading, few_at, few_of, offsets_at, head_at, next_change, changes_at, alone, body_at, position_after, placed, within_limit, nothing_more, with_first, applied, reading_on, reading}
use Rattle.tail_journal.specs.Read.{FitsApplied, groups_of}
use Rattle.tail_journal.proofs.FrameLaws.{le_of}
use Rattle.tail_journal.proofs.ReadingLaws.{skipped, applies, stops}
use Rattle.tail_journal.proofs.SpellingLaws.{few_is, wide16}

-- ---- the bodies of frames are bytes

bytes_taken : (n : ℕ) (bytes : List ℕ) → IsBytes bytes → IsBytes (take n bytes)
bytes_taken n bytes fits i = elim (cases_lt i n) [
  | inl lt ↦ rw (get_or-take n bytes i 0 lt) (fits i)
  | inr le ↦ rw (get_or_past (take n bytes) i 0 (omega (arith, length-take n bytes))) (omega arith)
]

abbrev HaveBytes : List Frame → Type 0
HaveBytes fs = AllByRecursion (λ frame. IsBytes frame.body) fs

if_whole : (whole : Bool) (frame : Frame) (more : List Frame) → IsBytes frame.body → HaveBytes more → HaveBytes (cond whole (frame ∷ more) [])
if_whole true frame more body fits = (body, fits)
if_whole false frame more body fits = tt

bodies : (n : ℕ) (bytes : List ℕ) → IsBytes bytes → HaveBytes (frames_after n bytes)
unfolding frames_after
bodies zero [] fits = tt
bodies (suc n) [] fits = tt
bodies (suc n) (b ∷ bytes) fits = bodies n bytes (λ i. fits (suc i))
bodies zero (gate ∷ rest) fits =
    let after : IsBytes rest = λ i. fits (suc i) in
    let body : IsBytes (frame_of rest).body = bytes_taken (body_size rest) (drop 12 rest) (IsBytes-drop 12 rest after) in
    if_whole (eqb gate 1 && is_whole rest) (frame_of rest) (frames_after (12 + body_size rest) rest) body (bodies (12 + body_size rest) rest after)

-- ---- the head of a body

few_then : (bytes : List ℕ) (x : Few × List ℕ) → IsBytes bytes → few_at bytes ≡ Ok x → IsBytes x.1
few_then bytes x fits e =
    let b = bind_ok (number_at w16 bytes) (λ n. few_of (length bytes) n.0 n.1) x e in
    subst IsBytes (few_is (length bytes) b.0.0 b.0.1 x b.2).0 ((number_law w16 (2 ^ 16) wide16).takes bytes b.0.0 b.0.1 fits b.1).0.rest_fits

-- There are no more lines than bytes of the steps file, and what follows is bytes.
abbrev FitsHead : Head × List ℕ → Type 0
FitsHead x = (x.0.lines ≤ x.0.steps) × IsBytes x.1

offsets_fit : (few : Few) (bytes : List ℕ) (x : Head × List ℕ) → IsBytes bytes → offsets_at few bytes ≡ Ok x → FitsHead x
unfolding offsets_at
offsets_fit few bytes x fits e =
    let wide = number_law w64 (2 ^ 64) wide64 in
    let a = bind_ok (number_at w64 bytes) _ x e in
    let b = bind_ok (number_at w64 a.0.1) _ x a.2 in
    let c = bind_ok (lines_at b.0.0 b.0.1) _ x b.2 in
    let mbox = wide.takes bytes a.0.0 a.0.1 fits a.1 in
    let steps = wide.takes a.0.1 b.0.0 b.0.1 mbox.0.rest_fits b.1 in
    let lines = (ruled_law records.b64 (λ k. k < 2 ^ 64) (number_at w64) (λ k. nat_le k b.0.0) wide).takes b.0.1 c.0.0 c.0.1 steps.0.rest_fits c.1 in
    let d = bind_ok (traces_at few.traced c.0.1) _ x c.2 in
    let traces = traces_take few.traced c.0.1 d.0.0 d.0.1 lines.0.rest_fits d.1 in
    let head : Head = record { changes = few.changes; mbox = a.0.0; steps = b.0.0; lines = c.0.0; mbox_trace = d.0.0.0; steps_trace = d.0.0.1 } in
    let last : (head, d.0.1) ≡ x = ok_is (head, d.0.1) x d.2 in
    subst FitsHead {x = (head, d.0.1)} last (le_of c.0.0 b.0.0 lines.1.1, traces.0.rest_fits)

head_fits : (bytes : List ℕ) (x : Head × List ℕ) → IsBytes bytes → head_at bytes ≡ Ok x → FitsHead x
unfolding head_at
head_fits bytes x fits e =
    let b = bind_ok (few_at bytes) _ x e in
    offsets_fit b.0.0 b.0.1 x (few_then bytes b.0 fits b.1) b.2

-- ---- the changes of a body

abbrev Valid : List (ℕ × Change) → Type 0
Valid changes = AllByRecursion (λ change. FitsChange change.1) changes

next_fits : (end : ℕ) (bytes : List ℕ) (x : (ℕ × Change) × List ℕ) → IsBytes bytes → next_change end bytes ≡ Ok x → FitsChange x.0.1 × IsBytes x.1
next_fits end bytes x fits e =
    let b = bind_ok (change_at bytes) _ x e in
    let change = b.0.0 in
    let rest = b.0.1 in
    let size = length (change_spelled change) in
    let taken = change_taken bytes change rest fits b.1 in
    let left : drop size bytes ≡ rest = ap (drop size) taken.1 ∙ drop_at (change_spelled change) rest size refl in
    let is : ((end - length bytes, change), rest) ≡ x = ok_is ((end - length bytes, change), rest) x b.2 in
    subst (λ (y : (ℕ × Change) × List ℕ). FitsChange y.0.1 × IsBytes y.1) is (taken.0, subst IsBytes left (IsBytes-drop size bytes fits))

times_fit : (end n : ℕ) (front : List (ℕ × Change)) (bytes : List ℕ) (x : List (ℕ × Change) × List ℕ) → IsBytes bytes → Valid front
    → times_of (λ _ rest. next_change end rest) front n bytes ≡ Ok x → Valid x.0
unfolding times_of
times_fit end zero front bytes x fits valid e = subst (λ (y : List (ℕ × Change) × List ℕ). Valid y.0) (ok_is (front, bytes) x e) valid
times_fit end (suc n) front bytes x fits valid e =
    let b = bind_ok (next_change end bytes) _ x e in
    let next = next_fits end bytes b.0 fits b.1 in
    times_fit end n (front ++ b.0.0 ∷ []) b.0.1 x next.1 (All-append (λ change. FitsChange change.1) front (b.0.0 ∷ []) valid (next.0, tt)) b.2

-- ---- the body of a group

abbrev FitsBody : Head × List (ℕ × Change) → Type 0
FitsBody body = (body.0.lines ≤ body.0.steps) × Valid body.1

body_valid : (end : ℕ) (bytes : List ℕ) (x : Head × List (ℕ × Change)) → IsBytes bytes → body_at end bytes ≡ Ok x → FitsBody x
unfolding body_at
body_valid end bytes x fits e =
    let b = bind_ok (head_at bytes) _ x e in
    let head = b.0.0 in
    let read = changes_at end head.changes b.0.1 in
    let c = bind_ok (alone read) _ x b.2 in
    let d = bind_ok read _ c.0 c.1 in
    let r = rule_ok (eqb (length d.0.1) 0) (length d.0.1) d.0.0 c.0 d.2 in
    let front = head_fits bytes b.0 fits b.1 in
    let changes : Valid c.0 = subst Valid r.1 (times_fit end head.changes [] b.0.1 d.0 front.1 tt d.1) in
    subst FitsBody (ok_is (head, c.0) x c.2) (front.0, changes)

-- ---- the groups

abbrev FitsPlaced : Applied → Type 0
FitsPlaced group = Valid group.changes × (group.position.lines ≤ group.position.steps)

placed_fits : (base start size end : ℕ) (bytes : List ℕ) (x : Result (Head × List (ℕ × Change)) ℕ) (group : Applied) → IsBytes bytes → body_at end bytes ≡ x → placed base start size x ≡ Ok group → FitsPlaced group
placed_fits base start size end bytes (Err left) group fits read e = absurd cc
placed_fits base start size end bytes (Ok body) group fits read e =
    let made : Applied = record { position = position_after base body.0; changes = body.1 } in
    let valid = body_valid end bytes body fits read in
    subst FitsPlaced (ok_is made group e) (valid.1, valid.0)

applied_fits : (at : ℕ) (frame : Frame) (group : Applied) → IsBytes frame.body → applied at frame ≡ Ok group → FitsApplied group
applied_fits at frame group fits e =
    let end = at + frame_size frame in
    let b = bind_ok (placed frame.base (at + 13) (length frame.body) (body_at end frame.body)) (within_limit at) group e in
    let r = rule_ok (nat_le b.0.position.count (2 ^ 62)) (at + 1) b.0 group b.2 in
    let valid = placed_fits frame.base (at + 13) (length frame.body) end frame.body (body_at end frame.body) b.0 fits refl b.1 in
    subst FitsApplied r.1 (record { changes = valid.0; count = le_of b.0.position.count (2 ^ 62) r.0; lines = valid.1 })

abbrev AllFit : Reading → Type 0
AllFit r = AllByRecursion FitsApplied r.groups

frames_fit : (fs : List Frame) (at count : ℕ) (r : Reading) → HaveBytes fs → reading_on at count fs ≡ Ok r → AllFit r
frames_fit [] at count r fits e = subst AllFit (ok_is (nothing_more at count) r e) tt
frames_fit (f ∷ fs) at count r fits e = elim (cases_Bool (nat_lt f.base count)) [
  | inl less ↦ frames_fit fs (at + frame_size f) count r fits.1 (sym (skipped f fs at count less) ∙ e)
  | inr not_less ↦ elim (cases_Bool (eqb f.base count)) [
    | inl same ↦
        let b = bind_ok (applied at f) _ r (sym (applies f fs at count not_less same) ∙ e) in
        let d = bind_ok (reading_on (at + frame_size f) b.0.position.count fs) (λ rest. Ok (with_first b.0 rest)) r b.2 in
        subst AllFit (ok_is (with_first b.0 d.0) r d.2) (applied_fits at f b.0 fits.0 b.1, frames_fit fs (at + frame_size f) b.0.position.count d.0 fits.1 d.1)
    | inr other ↦ subst AllFit (ok_is (nothing_more at count) r (sym (stops f fs at count not_less other) ∙ e)) tt
  ]
]

pub fits_reading : (count : ℕ) (bytes : List ℕ) (r : Reading) → IsBytes bytes → reading count bytes ≡ Ok r → AllByRecursion FitsApplied r.groups
fits_reading count bytes r fits e = frames_fit (frames bytes) 0 count r (bodies 0 bytes fits) e

-- the same of what is answered
pub fits_groups : (count end : ℕ) (groups : List Applied) (bytes : List ℕ) → IsBytes bytes → groups_of (reading count bytes) ≡ Ok (groups, end) → AllByRecursion FitsApplied groups
fits_groups count end groups bytes fits e =
    let b = bind_ok (reading count bytes) (λ r. Ok (r.groups, r.end)) (groups, end) e in
    let is : (b.0.groups, b.0.end) ≡ (groups, end) = ok_is (b.0.groups, b.0.end) (groups, end) b.2 in
    subst (λ (x : List Applied × ℕ). AllByRecursion FitsApplied x.0) is (fits_reading count bytes b.0 fits b.1)
