use Rattle.std.proofs.Common.{◌≡◌, true, false, arith, sym, ap, ◌∙◌, length, length-append}
use Rattle.kit.specs.Lines.{raw_lines, content}
use Rattle.mail_headers.specs.Headers.{is_empty, header_len}
use Rattle.mail_headers.proofs.HeaderLines.{header_len-filled, header_len-empty}
use Rattle.mail_headers.proofs.header.extent.Goals as goal
use Rattle.mail_headers.proofs.header.extent.Goals.{in_default, in-Some+then-is_empty}

pub loop-raw-preserved : goal.loop-raw-preserved
loop-raw-preserved c =
    let raw = c.in-Some.raw.now in
    let rest = raw_lines c.in-Some.rest.now in
    let before = c.loop-raw.invariant in
    let filled : is_empty (content raw) ≡ false = ap is_empty (sym c.content.ensures) ∙ (sym c.is_empty.ensures ∙ c.if-is_empty.false) in
    let len = ap header_len c.in-Some.ensures.lines ∙ header_len-filled raw rest filled in
    let cut = ap length c.in-Some.ensures.whole ∙ length-append raw c.in-Some.rest.now in
    record {
      within = omega (arith, c.in-Some.ensures.shorter, before.within);
      offset = omega (arith, len, cut, before.within, before.offset);
    }

pub returns : goal.returns
returns c =
    let before = c.loop-raw.invariant in
    elim c.match-split_line.branch [
      | in_default w ↦ (
          let len = ap header_len w.in_default.ensures.lines in
          let left = ap (λ l. length l.now) w.left-is in
          record {
            offset = omega (arith, len, left, before.offset);
            within = omega (arith, left);
          })
      | in-Some+then-is_empty w ↦ (
          let raw = w.in-Some.raw.now in
          let rest = raw_lines w.in-Some.rest.now in
          let empty : is_empty (content raw) ≡ true = ap is_empty (sym w.content.ensures) ∙ (sym w.is_empty.ensures ∙ w.if-is_empty.true) in
          let len = ap header_len w.in-Some.ensures.lines ∙ header_len-empty raw rest empty in
          let cut = ap length w.in-Some.ensures.whole ∙ length-append raw w.in-Some.rest.now in
          let left = ap (λ l. length l.now) w.left-is in
          record {
            offset = omega (arith, len, cut, left, before.within, before.offset);
            within = omega (arith, left);
          })
    ]
