-- A group of version 1 is read as its batch.
use Rattle.std.proofs.Common.{◌≡◌, ℕ, ◌+◌, ◌<◌, ◌≤◌, ◌^◌, List, [], ◌∷◌, ◌++◌, length, Bool, true, false, nat_le, cond, flat_map, Result, Ok, Err, refl, sym, ◌∙◌, ap, arith, length-append}
use Rattle.std.specs.Prelude.{◌&&◌}
use Rattle.std.proofs.lemmas.Bool.{and_from}
use Rattle.std.proofs.lemmas.List.{append-nil}
use Rattle.std.specs.Int.{w16}
use Rattle.card_type.specs.Records as records
use Rattle.mailbox_model.specs.declared.change.Change.{Change}
use Rattle.card_record.specs.Reading.{◌>>=◌, Read}
use Rattle.card_record.proofs.FieldLaws.{number_law}
use Rattle.state_image.specs.declared.position.Position.{Position}
use Rattle.state_image.specs.Changes.{change_spelled}
use Rattle.state_image.specs.Images.{no_trace, traces_at, IsUntraced}
use Rattle.tail_journal.specs.declared.body.Few.{Few}
use Rattle.tail_journal.specs.declared.body.Head.{Head}
use Rattle.tail_journal.specs.Frames.{Frame, frame_size, frames}
use Rattle.tail_journal.specs.Groups.{Applied, Reading, few_at, few_of, offsets_at, head_at, body_at, placed, within_limit, applied, with_first, reading_on}
use Rattle.tail_journal.specs.Spelling.{Batch, IsBatch, b16, old_body, old_group, old_group_head}
use Rattle.tail_journal.specs.Tails.{placed_changes, old_read_back}
use Rattle.tail_journal.proofs.FrameLaws.{one_frame, le_is}
use Rattle.tail_journal.proofs.Growing.{none_in_nothing}
use Rattle.tail_journal.proofs.ReadingLaws.{applies}
use Rattle.tail_journal.proofs.SpellingLaws.{wide16, changes_size, lines_again, wide_again, times_again, not_less, same_count}

abbrev old_few : ℕ → Few
old_few n = record { traced = false; changes = n }

abbrev old_head : ℕ → Position → Head
old_head n p = record { changes = n; mbox = p.mbox; steps = p.steps; lines = p.lines; mbox_trace = no_trace; steps_trace = no_trace }

few_plain : (left n : ℕ) (rest : List ℕ) → 1 ≤ n → n ≤ 256 → few_of left n rest ≡ Ok (old_few n, rest)
few_plain left n rest some few =
    let yes : (nat_le 1 n && nat_le n 256) ≡ true = and_from _ _ (le_is 1 n some) (le_is n 256 few) in
    rw yes refl

few_again : (n : ℕ) (rest : List ℕ) → 1 ≤ n → n ≤ 256 → few_at (b16 n ++ rest) ≡ Ok (old_few n, rest)
few_again n rest some few =
    let left = length (b16 n ++ rest) in
    ap (λ (x : Read ℕ). x >>= λ k. few_of left k.0 k.1) ((number_law w16 (2 ^ 16) wide16).again n rest (omega (arith, few)) (omega arith)) ∙ few_plain left n rest some few

offsets_again : (n : ℕ) (p : Position) (rest : List ℕ) → p.mbox < 2 ^ 64 → p.steps < 2 ^ 64 → p.lines ≤ p.steps
    → offsets_at (old_few n) (records.b64 p.mbox ++ (records.b64 p.steps ++ (records.b64 p.lines ++ rest))) ≡ Ok (old_head n p, rest)
unfolding offsets_at
offsets_again n p rest mbox steps lines =
    rw (
      wide_again p.mbox (records.b64 p.steps ++ (records.b64 p.lines ++ rest)) mbox,
      wide_again p.steps (records.b64 p.lines ++ rest) steps,
      lines_again p.steps p.lines rest (omega (arith, lines, steps)) lines,
    ) refl

head_again : (n : ℕ) (p : Position) (rest : List ℕ) → 1 ≤ n → n ≤ 256 → p.mbox < 2 ^ 64 → p.steps < 2 ^ 64 → p.lines ≤ p.steps
    → head_at (old_body p n rest) ≡ Ok (old_head n p, rest)
unfolding head_at
head_again n p rest some few mbox steps lines =
    let more = records.b64 p.mbox ++ (records.b64 p.steps ++ (records.b64 p.lines ++ rest)) in
    ap (λ (x : Read Few). x >>= λ k. offsets_at k.0 k.1) (few_again n more some few) ∙ offsets_again n p rest mbox steps lines

body_again : (end at : ℕ) (batch : Batch) → IsBatch batch → at + length (flat_map change_spelled batch.changes) ≡ end
    → body_at end (old_body batch.position (length batch.changes) (flat_map change_spelled batch.changes)) ≡ Ok (old_head (length batch.changes) batch.position, placed_changes at batch.changes)
unfolding body_at
body_again end at batch is size =
    let head = head_again (length batch.changes) batch.position (flat_map change_spelled batch.changes) is.some is.few is.mbox is.steps is.lines in
    let times = times_again end at [] batch.changes is.fits size in
    rw (head, times) refl

body_size : (p : Position) (n : ℕ) (changes : List ℕ) → length (old_body p n changes) ≡ 26 + length changes
body_size p n changes = omega arith

abbrev frame_of : Batch → Frame
frame_of batch = record { base = batch.base; body = old_body batch.position (length batch.changes) (flat_map change_spelled batch.changes) }

-- the position of the batch, where it has no traces
untraced : (p : Position) → IsUntraced p → record { count = p.count; mbox = p.mbox; steps = p.steps; lines = p.lines; mbox_trace = no_trace; steps_trace = no_trace } ≡ p
untraced p none = λ i. record { count = p.count; mbox = p.mbox; steps = p.steps; lines = p.lines; mbox_trace = sym none.mbox i; steps_trace = sym none.steps i }

applied_again : (at : ℕ) (batch : Batch) → IsBatch batch → IsUntraced batch.position → applied at (frame_of batch) ≡ Ok (old_read_back at batch)
applied_again at batch is none =
    let p = batch.position in
    let n = length batch.changes in
    let frame = frame_of batch in
    let end = at + frame_size frame in
    let body = body_again end (at + old_group_head) batch is (omega (arith, body_size p n (flat_map change_spelled batch.changes))) in
    let within : nat_le p.count (2 ^ 62) ≡ true = le_is p.count (2 ^ 62) is.limit in
    ap (λ (x : Result (Head × List (ℕ × Change)) ℕ). placed batch.base (at + 13) (length frame.body) x >>= within_limit at) body
    ∙ ap (λ (k : ℕ). within_limit at (record { position = record { count = k; mbox = p.mbox; steps = p.steps; lines = p.lines; mbox_trace = no_trace; steps_trace = no_trace }; changes = placed_changes (at + old_group_head) batch.changes })) is.count
    ∙ ap (λ (q : Position). within_limit at (record { position = q; changes = placed_changes (at + old_group_head) batch.changes })) (untraced p none)
    ∙ ap (λ (b : Bool). cond {A = Result Applied ℕ} b (Ok (old_read_back at batch)) (Err (at + 1))) within

abbrev alone_read : ℕ → Batch → Reading
alone_read at batch = record { groups = old_read_back at batch ∷ []; count = batch.position.count; end = at + length (old_group batch) }

pub old_group_again : (at : ℕ) (batch : Batch) → IsBatch batch → IsUntraced batch.position → reading_on at batch.base (frames (old_group batch)) ≡ Ok (alone_read at batch)
old_group_again at batch is none =
    let frame = frame_of batch in
    let limit : batch.position.count ≤ 2 ^ 62 = is.limit in
    let few : length batch.changes ≤ 256 = is.few in
    let small : length frame.body < 2 ^ 32 = omega (arith, body_size batch.position (length batch.changes) (flat_map change_spelled batch.changes), changes_size batch.changes is.fits, few) in
    let one : frames (old_group batch) ≡ frame ∷ [] =
    ap frames (sym (append-nil (old_group batch))) ∙ one_frame batch.base frame.body [] (omega (arith, is.count, limit)) small ∙ ap (λ (fs : List Frame). frame ∷ fs) none_in_nothing in
    let end : at + frame_size frame ≡ at + length (old_group batch) = omega arith in
    ap (reading_on at batch.base) one ∙ applies frame [] at batch.base (not_less batch.base) (same_count batch.base)
    ∙ ap (λ (x : Result Applied ℕ). x >>= λ group. reading_on (at + frame_size frame) group.position.count [] >>= λ rest. Ok (with_first group rest)) (applied_again at batch is none)
    ∙ ap (λ (k : ℕ). Ok (record { groups = old_read_back at batch ∷ []; count = batch.position.count; end = k })) end
