-- A spelled group is read as its batch.
use Rattle.std.proofs.Common.{◌≡◌, ℕ, ◌+◌, ◌-◌, ◌*◌, ◌<◌, ◌≤◌, ◌^◌, List, [], ◌∷◌, ◌++◌, length, Bool, true, false, ◌&&◌, nat_le, nat_lt, eqb, cond, flat_map, Result, Ok, Err, refl, subst, sym, ◌∙◌, ap, arith, append_assoc, length-append}
use Rattle.std.proofs.lemmas.Bool.{and_from, and_parts}
use Rattle.std.proofs.lemmas.Bool.Decides.{nat_tests}
use Rattle.std.proofs.lemmas.List.{append-nil}
use Rattle.std.proofs.lemmas.List.Concat.{flat_map-cons}
use Rattle.std.proofs.lemmas.Nat.{be_bytes_2, from_be_bytes-to_be_bytes_2}
use Rattle.std.specs.Int.{w16, w64, to_be_bytes}
use Rattle.std.specs.List.{AllByRecursion}
use Rattle.card_type.specs.Records as records
use Rattle.card_type.specs.Rules.{is_valid, is_shown, is_requests, is_envelope, keeps_bounds}
use Rattle.card_type.specs.declared.card.Card.{Card}
use Rattle.mailbox_model.specs.declared.change.Change.{Change}
use Rattle.mailbox_model.specs.declared.change.Change.TheVariants.{Arrive, ArriveFault, Expunge, Seen, At}
use Rattle.card_record.specs.Reading.{◌>>=◌, Read, number_at, times_of}
use Rattle.card_record.proofs.FieldLaws.{IsWide, ok_is, wide64, number_law, ruled_law}
use Rattle.state_image.specs.declared.position.Position.{Position}
use Rattle.state_image.specs.Changes.{change_at, change_spelled, FitsChange}
use Rattle.state_image.specs.Images.{lines_at}
use Rattle.state_image.proofs.ImageLaws.{traces_again}
use Rattle.tail_journal.specs.declared.body.Few.{Few}
use Rattle.state_image.proofs.ChangeLaws.{change_again}
use Rattle.tail_journal.specs.declared.body.Head.{Head}
use Rattle.tail_journal.specs.Frames.{Frame, frame_size, frames}
use Rattle.tail_journal.specs.Groups.{Applied, Reading, few_at, few_by, few_of, next_change, offsets_at, head_at, body_at, placed, within_limit, applied, with_first, reading_on}
use Rattle.tail_journal.specs.Spelling.{Batch, IsBatch, b16, body_spelled, group_head, group_spelled}
use Rattle.tail_journal.specs.Tails.{placed_changes, read_back}
use Rattle.tail_journal.proofs.FrameLaws.{one_frame, le_is}
use Rattle.tail_journal.proofs.Growing.{none_in_nothing}
use Rattle.tail_journal.proofs.ReadingLaws.{applies}

-- ---- sizes

card_size : (card : Card) → is_valid card ≡ true → length (records.record_of card) ≤ 1048576
card_size card valid =
    let h3 = and_parts _ (is_shown card) valid in
    let h2 = and_parts _ (is_requests card) h3.0 in
    let h1 = and_parts (keeps_bounds card) (is_envelope card) h2.0 in
    let b6 = and_parts _ _ h1.0 in let b5 = and_parts _ _ b6.0 in let b4 = and_parts _ _ b5.0 in let b3 = and_parts _ _ b4.0 in let b2 = and_parts _ _ b3.0 in let b1 = and_parts _ _ b2.0 in
    let light : nat_le (records.weight card) 1048576 ≡ true = b1.0 in
    grind (arith, nat_tests, light)

change_size : (change : Change) → FitsChange change → length (change_spelled change) ≤ 1048577
change_size (Arrive card) valid = omega (arith, card_size card valid)
change_size (ArriveFault fault) fits = omega arith
change_size (Expunge uid) fits = omega arith
change_size (Seen uid) fits = omega arith
change_size (At moment) fits = omega arith

cons_size : (change : Change) (more : List Change) → length (flat_map change_spelled (change ∷ more)) ≡ length (change_spelled change) + length (flat_map change_spelled more)
cons_size change more = ap length (flat_map-cons change_spelled change more) ∙ length-append (change_spelled change) (flat_map change_spelled more)

pub changes_size : (changes : List Change) → AllByRecursion FitsChange changes → length (flat_map change_spelled changes) ≤ 1048577 * length changes
changes_size [] fits = omega arith
changes_size (change ∷ more) fits = omega (arith, cons_size change more, change_size change fits.0, changes_size more fits.1)

body_size : (p : Position) (n : ℕ) (changes : List ℕ) → length p.mbox_trace ≡ 32 → length p.steps_trace ≡ 32 → length (body_spelled p n changes) ≡ 90 + length changes
body_size p n changes mbox steps = omega (arith, mbox, steps, length-append (p.mbox_trace ++ p.steps_trace) changes, length-append p.mbox_trace p.steps_trace)

-- ---- the head

pub wide16 : IsWide w16 (2 ^ 16)
wide16 = record {
  some = omega arith;
  len = λ n. refl;
  back = λ bytes len fits. be_bytes_2 bytes _ len fits refl;
  again = λ n lt. from_be_bytes-to_be_bytes_2 n lt;
  below = λ bytes fits. omega (arith, fits 0, fits 1);
}

at_least : (a b : ℕ) → nat_le a b ≡ true → a ≤ b
at_least a b h = grind (arith, nat_tests)

few_case : (one two : Bool) (left n : ℕ) (rest : List ℕ) (x : Few × List ℕ) → (one ≡ true → 1 ≤ n) → (two ≡ true → 32769 ≤ n) → few_by one two left n rest ≡ Ok x → (rest ≡ x.1) × (1 ≤ x.0.changes)
few_case true two left n rest x p q e =
    let few : Few = record { traced = false; changes = n } in
    subst (λ (y : Few × List ℕ). (rest ≡ y.1) × (1 ≤ y.0.changes)) (ok_is (few, rest) x e) (refl, p refl)
few_case false true left n rest x p q e =
    let few : Few = record { traced = true; changes = n - 32768 } in
    let low : 32769 ≤ n = q refl in
    subst (λ (y : Few × List ℕ). (rest ≡ y.1) × (1 ≤ y.0.changes)) (ok_is (few, rest) x e) (refl, omega arith)
few_case false false left n rest x p q e = absurd cc

pub few_is : (left n : ℕ) (rest : List ℕ) (x : Few × List ℕ) → few_of left n rest ≡ Ok x → (rest ≡ x.1) × (1 ≤ x.0.changes)
few_is left n rest x e =
    few_case (nat_le 1 n && nat_le n 256) (nat_le 32769 n && nat_le n 33024) left n rest x
    (λ h. at_least 1 n (and_parts (nat_le 1 n) (nat_le n 256) h).0) (λ h. at_least 32769 n (and_parts (nat_le 32769 n) (nat_le n 33024) h).0) e

few_traced : (left n : ℕ) (rest : List ℕ) → 1 ≤ n → n ≤ 256 → few_of left (32768 + n) rest ≡ Ok (record { traced = true; changes = n }, rest)
few_traced left n rest some few =
    let high : nat_le (32768 + n) 256 ≡ false = grind (arith, nat_tests) in
    let no : (nat_le 1 (32768 + n) && nat_le (32768 + n) 256) ≡ false = and_no (nat_le 1 (32768 + n)) (nat_le (32768 + n) 256) high in
    let yes : (nat_le 32769 (32768 + n) && nat_le (32768 + n) 33024) ≡ true = and_from _ _ (le_is 32769 (32768 + n) (omega (arith, some))) (le_is (32768 + n) 33024 (omega (arith, few))) in
    let back : 32768 + n - 32768 ≡ n = omega arith in
    rw (no, yes, back) refl
  where
    and_no : (a b : Bool) → b ≡ false → (a && b) ≡ false
    and_no true b e = e
    and_no false b e = refl

few_again : (n : ℕ) (rest : List ℕ) → 1 ≤ n → n ≤ 256 → few_at (b16 (32768 + n) ++ rest) ≡ Ok (record { traced = true; changes = n }, rest)
few_again n rest some few =
    let left = length (b16 (32768 + n) ++ rest) in
    ap (λ (x : Read ℕ). x >>= λ k. few_of left k.0 k.1) ((number_law w16 (2 ^ 16) wide16).again (32768 + n) rest (omega (arith, few)) (omega arith)) ∙ few_traced left n rest some few

pub lines_again : (steps n : ℕ) (rest : List ℕ) → n < 2 ^ 64 → n ≤ steps → lines_at steps (records.b64 n ++ rest) ≡ Ok (n, rest)
lines_again steps n rest wide low =
    (ruled_law records.b64 (λ k. k < 2 ^ 64) (number_at w64) (λ k. nat_le k steps) (number_law w64 (2 ^ 64) wide64)).again n rest (wide, le_is n steps low) (omega arith)

pub wide_again : (n : ℕ) (rest : List ℕ) → n < 2 ^ 64 → number_at w64 (records.b64 n ++ rest) ≡ Ok (n, rest)
wide_again n rest wide = (number_law w64 (2 ^ 64) wide64).again n rest wide (omega arith)

abbrev head_of : ℕ → Position → Head
head_of n p = record {
  changes = n;
  mbox = p.mbox;
  steps = p.steps;
  lines = p.lines;
  mbox_trace = p.mbox_trace;
  steps_trace = p.steps_trace;
}

abbrev traced_few : ℕ → Few
traced_few n = record { traced = true; changes = n }

offsets_again : (n : ℕ) (p : Position) (rest : List ℕ) → p.mbox < 2 ^ 64 → p.steps < 2 ^ 64 → p.lines ≤ p.steps → length p.mbox_trace ≡ 32 → length p.steps_trace ≡ 32
    → offsets_at (traced_few n) (records.b64 p.mbox ++ (records.b64 p.steps ++ (records.b64 p.lines ++ ((p.mbox_trace ++ p.steps_trace) ++ rest)))) ≡ Ok (head_of n p, rest)
unfolding offsets_at
offsets_again n p rest mbox steps lines one two =
    let more = (p.mbox_trace ++ p.steps_trace) ++ rest in
    rw (
      wide_again p.mbox (records.b64 p.steps ++ (records.b64 p.lines ++ more)) mbox,
      wide_again p.steps (records.b64 p.lines ++ more) steps,
      lines_again p.steps p.lines more (omega (arith, lines, steps)) lines,
      traces_again true (p.mbox_trace, p.steps_trace) rest (one, two),
    ) refl

head_again : (n : ℕ) (p : Position) (rest : List ℕ) → 1 ≤ n → n ≤ 256 → p.mbox < 2 ^ 64 → p.steps < 2 ^ 64 → p.lines ≤ p.steps → length p.mbox_trace ≡ 32 → length p.steps_trace ≡ 32
    → head_at (body_spelled p n rest) ≡ Ok (head_of n p, rest)
unfolding head_at
head_again n p rest some few mbox steps lines one two =
    let more = records.b64 p.mbox ++ (records.b64 p.steps ++ (records.b64 p.lines ++ ((p.mbox_trace ++ p.steps_trace) ++ rest))) in
    ap (λ (x : Read Few). x >>= λ k. offsets_at k.0 k.1) (few_again n more some few) ∙ offsets_again n p rest mbox steps lines one two

-- ---- the changes

next_again : (end : ℕ) (change : Change) (more : List Change) → FitsChange change
    → next_change end (flat_map change_spelled (change ∷ more)) ≡ Ok ((end - length (flat_map change_spelled (change ∷ more)), change), flat_map change_spelled more)
next_again end change more fits =
    let bytes = flat_map change_spelled (change ∷ more) in
    let read : change_at bytes ≡ Ok (change, flat_map change_spelled more) = ap change_at (flat_map-cons change_spelled change more) ∙ change_again change (flat_map change_spelled more) fits in
    ap (λ (x : Read Change). x >>= λ y. Ok ((end - length bytes, y.0), y.1)) read

pub times_again : (end at : ℕ) (front : List (ℕ × Change)) (changes : List Change) → AllByRecursion FitsChange changes → at + length (flat_map change_spelled changes) ≡ end
    → times_of (λ _ rest. next_change end rest) front (length changes) (flat_map change_spelled changes) ≡ Ok (front ++ placed_changes at changes, [])
unfolding times_of
times_again end at front [] fits is = ap (λ (xs : List (ℕ × Change)). Ok (xs, [])) (sym (append-nil front))
times_again end at front (change ∷ more) fits is =
    let here : end - length (flat_map change_spelled (change ∷ more)) ≡ at = omega (arith, is) in
    let first : ℕ × Change = (at, change) in
    let next : next_change end (flat_map change_spelled (change ∷ more)) ≡ Ok (first, flat_map change_spelled more) =
    next_again end change more fits.0 ∙ ap (λ (k : ℕ). Ok ((k, change), flat_map change_spelled more)) here in
    ap (λ (x : Read (ℕ × Change)). x >>= λ y. times_of (λ _ rest. next_change end rest) (front ++ y.0 ∷ []) (length more) y.1) next
    ∙ times_again end (at + length (change_spelled change)) (front ++ first ∷ []) more fits.1 (omega (arith, is, cons_size change more))
    ∙ ap (λ (xs : List (ℕ × Change)). Ok (xs, [])) (append_assoc front (first ∷ []) (placed_changes (at + length (change_spelled change)) more))

-- ---- the group

body_again : (end at : ℕ) (batch : Batch) → IsBatch batch → at + length (flat_map change_spelled batch.changes) ≡ end
    → body_at end (body_spelled batch.position (length batch.changes) (flat_map change_spelled batch.changes)) ≡ Ok (head_of (length batch.changes) batch.position, placed_changes at batch.changes)
unfolding body_at
body_again end at batch is size =
    let head = head_again (length batch.changes) batch.position (flat_map change_spelled batch.changes) is.some is.few is.mbox is.steps is.lines is.mbox_trace is.steps_trace in
    let times = times_again end at [] batch.changes is.fits size in
    rw (head, times) refl

abbrev frame_of : Batch → Frame
frame_of batch = record { base = batch.base; body = body_spelled batch.position (length batch.changes) (flat_map change_spelled batch.changes) }

applied_again : (at : ℕ) (batch : Batch) → IsBatch batch → applied at (frame_of batch) ≡ Ok (read_back at batch)
applied_again at batch is =
    let p = batch.position in
    let n = length batch.changes in
    let frame = frame_of batch in
    let end = at + frame_size frame in
    let body = body_again end (at + group_head) batch is (omega (arith, body_size p n (flat_map change_spelled batch.changes) is.mbox_trace is.steps_trace)) in
    let within : nat_le p.count (2 ^ 62) ≡ true = le_is p.count (2 ^ 62) is.limit in
    ap (λ (x : Result (Head × List (ℕ × Change)) ℕ). placed batch.base (at + 13) (length frame.body) x >>= within_limit at) body
    ∙ ap (λ (k : ℕ). within_limit at (record { position = record { count = k; mbox = p.mbox; steps = p.steps; lines = p.lines; mbox_trace = p.mbox_trace; steps_trace = p.steps_trace }; changes = placed_changes (at + group_head) batch.changes })) is.count
    ∙ ap (λ (b : Bool). cond {A = Result Applied ℕ} b (Ok (read_back at batch)) (Err (at + 1))) within

pub not_less : (n : ℕ) → nat_lt n n ≡ false
not_less n = grind (arith, nat_tests)

pub same_count : (n : ℕ) → eqb n n ≡ true
same_count n = grind (arith, nat_tests)

abbrev pub alone_read : ℕ → Batch → Reading
alone_read at batch = record { groups = read_back at batch ∷ []; count = batch.position.count; end = at + length (group_spelled batch) }

pub group_again : (at : ℕ) (batch : Batch) → IsBatch batch → reading_on at batch.base (frames (group_spelled batch)) ≡ Ok (alone_read at batch)
group_again at batch is =
    let frame = frame_of batch in
    let limit : batch.position.count ≤ 2 ^ 62 = is.limit in
    let few : length batch.changes ≤ 256 = is.few in
    let small : length frame.body < 2 ^ 32 = omega (arith, body_size batch.position (length batch.changes) (flat_map change_spelled batch.changes) is.mbox_trace is.steps_trace, changes_size batch.changes is.fits, few) in
    let one : frames (group_spelled batch) ≡ frame ∷ [] =
    ap frames (sym (append-nil (group_spelled batch))) ∙ one_frame batch.base frame.body [] (omega (arith, is.count, limit)) small ∙ ap (λ (fs : List Frame). frame ∷ fs) none_in_nothing in
    let end : at + frame_size frame ≡ at + length (group_spelled batch) = omega arith in
    ap (reading_on at batch.base) one ∙ applies frame [] at batch.base (not_less batch.base) (same_count batch.base)
    ∙ ap (λ (x : Result Applied ℕ). x >>= λ group. reading_on (at + frame_size frame) group.position.count [] >>= λ rest. Ok (with_first group rest)) (applied_again at batch is)
    ∙ ap (λ (k : ℕ). Ok (record { groups = read_back at batch ∷ []; count = batch.position.count; end = k })) end
