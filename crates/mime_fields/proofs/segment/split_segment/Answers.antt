use Rattle.std.proofs.Common.{◌≡◌, ◌+◌, ◌==◌, not, get_or, false, arith, length-drop}
use Rattle.std.specs.Prelude.{◌&&◌}
use Rattle.std.proofs.lemmas.Bool.Decides.{nat_tests}
use Rattle.std.proofs.lemmas.List.{take_rest}
use Rattle.mime_fields.proofs.SegmentLemmas.{one_more, only_segment, segment_ends}
use Rattle.mime_fields.proofs.segment.split_segment.Goals as goal
use Rattle.mime_fields.proofs.segment.split_segment.Goals.{else-byte-eq59-via-then-byte-eq59+else-not-quoted, else-byte-eq59-via-else-byte-eq59}

pub returns-then-not-quoted : goal.returns-then-not-quoted
returns-then-not-quoted c =
    let bytes = c.args.bytes.now in
    let ends = segment_ends bytes c.loop-at.at c.loop-at.quoted c.loop-at.escaped c.loop-at-test.true c.if-byte-eq59.true c.if-not-quoted.true c.loop-at.invariant in
    rw take_rest (ends, omega (arith, length-drop (c.loop-at.at + 1) bytes))

pub loop-at-preserved : goal.loop-at-preserved
loop-at-preserved c =
    let bytes = c.args.bytes.now in
    let goes : (get_or bytes c.loop-at.at 0 == 59 && not c.loop-at.quoted) ≡ false = elim c.else-byte-eq59.branch [
      | else-byte-eq59-via-then-byte-eq59+else-not-quoted w ↦ grind (arith, nat_tests, w.if-not-quoted.false)
      | else-byte-eq59-via-else-byte-eq59 w ↦ grind (arith, nat_tests, w.if-byte-eq59.false)
    ] in
    rw (c.quoted_after-open.ensures, c.escaped_after-escaped.ensures) (one_more bytes c.loop-at.at c.loop-at.quoted c.loop-at.escaped _ c.loop-at-test.true goes c.loop-at.invariant)

pub returns : goal.returns
returns c = only_segment c.args.bytes.now c.loop-at.at c.loop-at.quoted c.loop-at.escaped c.loop-at-test.false c.loop-at.invariant
