use Rattle.std.proofs.Common.{◌≡◌, ◌∙◌, [], ◌∷◌, ◌++◌, ◌+◌, ◌-◌, length, take, drop, refl, sym, ap, arith, length-append, length-drop}
use Rattle.card_type.specs.Records as records
use Rattle.tail_journal.specs.Spelling.{b16, body_spelled, group_head}
use Rattle.tail_journal.proofs.Filled.{one_more}
use Rattle.tail_journal.proofs.group.fill_head.Goals as goal

pub returns : goal.returns
returns c =
    let old = c.args.group.now in
    let p = c.args.position in
    let g1 = c.put.new.group in
    let g2 = c.put-2.new.group in
    let g3 = c.put-3.new.group in
    let g4 = c.put-4.new.group in
    let g5 = c.put-5.new.group in
    let g6 = c.put-6.new.group in
    let g7 = c.put-7.new.group in
    let g8 = c.put_trace.new.group in
    let g9 = c.put_trace-2.new.group in
    let base = records.b64 c.args.base in
    let size = records.b32 (length old - 13) in
    let n = b16 (32768 + c.args.n) in
    let mbox = p.mbox_trace in
    let steps = p.steps_trace in
    let second : g2 ≡ take 1 g1 ++ base ++ drop 9 g1 = rw c.to_be_bytes.ensures at c.put-2.ensures in
    let third : g3 ≡ take 9 g2 ++ size ++ drop 13 g2 = rw c.to_be_bytes-2.ensures at c.put-3.ensures in
    let fourth : g4 ≡ take 13 g3 ++ n ++ drop 15 g3 = rw c.to_be_bytes-3.ensures at c.put-4.ensures in
    let fifth : g5 ≡ take 15 g4 ++ records.b64 p.mbox ++ drop 23 g4 = rw c.to_be_bytes-4.ensures at c.put-5.ensures in
    let sixth : g6 ≡ take 23 g5 ++ records.b64 p.steps ++ drop 31 g5 = rw c.to_be_bytes-5.ensures at c.put-6.ensures in
    let seventh : g7 ≡ take 31 g6 ++ records.b64 p.lines ++ drop 39 g6 = rw c.to_be_bytes-6.ensures at c.put-7.ensures in
    let one = one_more [] (1 ∷ []) old old g1 refl c.put.ensures in
    let two = one_more (1 ∷ []) base old g1 g2 one second in
    let three = one_more (1 ∷ base) size old g2 g3 two third in
    let four = one_more (1 ∷ base ++ size) n old g3 g4 three fourth in
    let five = one_more (1 ∷ base ++ size ++ n) (records.b64 p.mbox) old g4 g5 four fifth in
    let six = one_more (1 ∷ base ++ size ++ n ++ records.b64 p.mbox) (records.b64 p.steps) old g5 g6 five sixth in
    let seven = one_more (1 ∷ base ++ size ++ n ++ records.b64 p.mbox ++ records.b64 p.steps) (records.b64 p.lines) old g6 g7 six seventh in
    let numbers = 1 ∷ base ++ size ++ n ++ records.b64 p.mbox ++ records.b64 p.steps ++ records.b64 p.lines in
    let mbox_len : 32 ≡ length mbox = sym c.put_trace.ensures.len in
    let steps_len : 32 ≡ length steps = sym c.put_trace-2.ensures.len in
    let eighth : g8 ≡ take 39 g7 ++ mbox ++ drop (39 + length mbox) g7 = c.put_trace.ensures.text ∙ (λ i. take 39 g7 ++ mbox ++ drop (39 + mbox_len i) g7) in
    let eight = one_more numbers mbox old g7 g8 seven eighth in
    let at : 71 ≡ length (numbers ++ mbox) = omega (arith, mbox_len) in
    let ninth : g9 ≡ take (length (numbers ++ mbox)) g8 ++ steps ++ drop (length (numbers ++ mbox) + length steps) g8 =
    c.put_trace-2.ensures.text ∙ (λ i. take (at i) g8 ++ steps ++ drop (at i + steps_len i) g8) in
    let nine = one_more (numbers ++ mbox) steps old g8 g9 eight ninth in
    let end : length ((numbers ++ mbox) ++ steps) ≡ group_head = omega (arith, mbox_len, steps_len, length-append mbox steps) in
    let left : length old - 13 ≡ length (body_spelled p c.args.n (drop group_head old)) =
    omega (arith, c.requires.room, length-drop group_head old, mbox_len, steps_len, length-append mbox steps, length-append (mbox ++ steps) (drop group_head old)) in
    nine ∙ (λ i. 1 ∷ base ++ records.b32 (left i) ++ n ++ records.b64 p.mbox ++ records.b64 p.steps ++ records.b64 p.lines ++ (mbox ++ steps) ++ drop (end i) old)
