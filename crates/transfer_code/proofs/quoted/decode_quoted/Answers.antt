use Rattle.std.proofs.Common.{◌++◌, append-nil, ap, subst, sym, ◌∙◌}
use Rattle.std.specs.Prelude.{flat_map}
use Rattle.kit.specs.Lines.{content, raw_lines}
use Rattle.transfer_code.specs.Quoted.{LinesText, is_broken, line_text}
use Rattle.transfer_code.proofs.LineTexts.{lines_decode, lines_alone}
use Rattle.transfer_code.proofs.quoted.decode_quoted.Goals as goal

pub returns-clause-decodes : goal.returns-clause-decodes
returns-clause-decodes c =
    let raws = raw_lines c.args.bytes.now in
    let value = sym (append-nil c.loop-raw.out.items)
    ∙ sym (ap (λ ls. c.loop-raw.out.items ++ flat_map (λ raw. line_text (content raw) (is_broken raw)) ls) c.in_default.ensures.lines) ∙ c.loop-raw.invariant in
    subst (LinesText raws) (sym value) (lines_decode raws)

pub returns-clause-alone : goal.returns-clause-alone
returns-clause-alone c other decodes =
    let value = sym (append-nil c.loop-raw.out.items)
    ∙ sym (ap (λ ls. c.loop-raw.out.items ++ flat_map (λ raw. line_text (content raw) (is_broken raw)) ls) c.in_default.ensures.lines) ∙ c.loop-raw.invariant in
    lines_alone (raw_lines c.args.bytes.now) other decodes ∙ sym value
