use Rattle.std.proofs.Common.{◌≡◌, ◌+◌, ◌++◌, List, Option, Some, option_to_list, length, arith, sym, ap, ◌∙◌, append_assoc, length-append, length-take, ◌-◌, true, false}
use Rattle.kit.specs.Lines.{raw_lines, content, ending_len}
use Rattle.mime_parts.specs.declared.multipart.Span.{Span}
use Rattle.mime_parts.specs.Multiparts.{cut, is_closing, is_delimiter, is_only}
use Rattle.mime_parts.specs.Walks.{extended}
use Rattle.mime_parts.proofs.PartLemmas.{met, met-closing, met-delimiter, met-end, met-line}
use Rattle.mime_parts.proofs.multipart.parts_between.Goals as goal

pub overflow_add-next : goal.overflow_add-next
overflow_add-next c =
    omega (arith, c.loop-raw.invariant.offset, ap length c.in-Some.ensures.whole, length-append c.in-Some.raw.now c.in-Some.rest.now, c.requires)

pub overflow_add-at : goal.overflow_add-at
overflow_add-at c =
    let raw = c.in-Some.raw.now in
    omega (arith, c.loop-raw.invariant.offset, ap length c.in-Some.ensures.whole, length-append raw c.in-Some.rest.now, ap length c.content-line.ensures, length-take (length raw - ending_len raw) raw, c.requires)

pub returns-then-is_only : goal.returns-then-is_only
returns-then-is_only c = λ boundary d e.
    let raw = c.in-Some.raw.now in
    let rest = raw_lines c.in-Some.rest.now in
    let closing : is_closing boundary raw ≡ true =
    ap (λ text. is_only text (content raw)) (sym e) ∙ ap (is_only c.args.closing.now) (sym c.content-line.ensures) ∙ sym c.is_only.ensures ∙ c.if-is_only.true in
    c.in_ok-push_part.ensures
    ∙ ap (λ (more : List Span). c.loop-raw.found.items ++ more) (sym (met-closing boundary raw rest c.loop-raw.part c.loop-raw.at closing))
    ∙ rw c.in-Some.ensures.lines at (c.loop-raw.invariant.so_far boundary d e)

pub loop-raw-preserved-in_ok-push_part-2 : goal.loop-raw-preserved-in_ok-push_part-2
loop-raw-preserved-in_ok-push_part-2 c =
    let raw = c.in-Some.raw.now in
    let rest = raw_lines c.in-Some.rest.now in
    record {
      offset = omega (arith, c.loop-raw.invariant.offset, ap length c.in-Some.ensures.whole, length-append raw c.in-Some.rest.now);
      so_far = λ boundary d e.
          let goes : is_closing boundary raw ≡ false =
          ap (λ text. is_only text (content raw)) (sym e) ∙ ap (is_only c.args.closing.now) (sym c.content-line.ensures) ∙ sym c.is_only.ensures ∙ c.if-is_only.false in
          let delimits : is_delimiter boundary raw ≡ true =
          ap (λ text. is_only text (content raw)) (sym d) ∙ ap (is_only c.args.delimiter.now) (sym c.content-line.ensures) ∙ sym c.is_only-in-Some.ensures ∙ c.if-is_only-2.true in
          let next = c.loop-raw.at + length raw in
          let begun = met (Some (record { start = next; end = next })) next (cut boundary rest) in
          ap (λ (found : List Span). found ++ begun) c.in_ok-push_part-2.ensures
          ∙ append_assoc c.loop-raw.found.items (option_to_list c.loop-raw.part) begun
          ∙ ap (λ (more : List Span). c.loop-raw.found.items ++ more) (sym (met-delimiter boundary raw rest c.loop-raw.part c.loop-raw.at goes delimits))
          ∙ rw c.in-Some.ensures.lines at (c.loop-raw.invariant.so_far boundary d e);
    }

pub loop-raw-preserved : goal.loop-raw-preserved
loop-raw-preserved c =
    let raw = c.in-Some.raw.now in
    let rest = raw_lines c.in-Some.rest.now in
    record {
      offset = omega (arith, c.loop-raw.invariant.offset, ap length c.in-Some.ensures.whole, length-append raw c.in-Some.rest.now);
      so_far = λ boundary d e.
          let goes : is_closing boundary raw ≡ false =
          ap (λ text. is_only text (content raw)) (sym e) ∙ ap (is_only c.args.closing.now) (sym c.content-line.ensures) ∙ sym c.is_only.ensures ∙ c.if-is_only.false in
          let stays : is_delimiter boundary raw ≡ false =
          ap (λ text. is_only text (content raw)) (sym d) ∙ ap (is_only c.args.delimiter.now) (sym c.content-line.ensures) ∙ sym c.is_only-in-Some.ensures ∙ c.if-is_only-2.false in
          ap (λ part. c.loop-raw.found.items ++ met part (c.loop-raw.at + length raw) (cut boundary rest)) (c.extended-part.ensures ∙ ap (λ l. extended c.loop-raw.part (c.loop-raw.at + length l)) c.content-line.ensures)
          ∙ ap (λ (more : List Span). c.loop-raw.found.items ++ more) (sym (met-line boundary raw rest c.loop-raw.part c.loop-raw.at goes stays))
          ∙ rw c.in-Some.ensures.lines at (c.loop-raw.invariant.so_far boundary d e);
    }

pub returns : goal.returns
returns c = λ boundary d e.
    c.in_ok-push_part-3.ensures
    ∙ ap (λ (part : Option Span). c.loop-raw.found.items ++ option_to_list part) c.extended.ensures
    ∙ ap (λ (more : List Span). c.loop-raw.found.items ++ more) (sym (met-end boundary c.loop-raw.part c.loop-raw.at))
    ∙ rw c.in_default.ensures.lines at (c.loop-raw.invariant.so_far boundary d e)
