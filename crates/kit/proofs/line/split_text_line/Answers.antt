use Rattle.std.proofs.Common.{◌∷◌, [], sym, ap, ◌∙◌, arith}
use Rattle.std.specs.Prelude.{map}
use Rattle.std.proofs.lemmas.Str.Pattern.{strip_suffix_char}
use Rattle.kit.specs.Lines.{content, raw_lines}
use Rattle.kit.proofs.ContentLemmas.{content_open, content_stripped}
use Rattle.kit.proofs.RawLines.{raw_lines-before, raw_lines-whole}
use Rattle.kit.proofs.line.split_text_line.Goals as goal

pub returns-in-Some-clause-lines : goal.returns-in-Some-clause-lines
returns-in-Some-clause-lines c =
    let text = c.args.text.now in
    let parts = c.in-Some.ensures.byte (omega arith) (λ w o h. h) in
    let stripped = strip_suffix_char 13 c.in-Some.line.now c.strip_suffix.result c.strip_suffix.ensures.cases (omega arith) in
    ap (map content) (raw_lines-before text parts.2)
    ∙ rw (← parts.0, ← parts.1) (ap (λ l. l ∷ map content (raw_lines c.in-Some.rest.now)) (content_stripped c.in-Some.line c.strip_suffix.result stripped ∙ sym (ap (λ r. r.now) c.unwrap_or.ensures)))

pub returns-in-None-clause-lines : goal.returns-in-None-clause-lines
returns-in-None-clause-lines c =
    let text = c.args.text.now in
    let none = c.in-None.ensures.byte (omega arith) (λ w o h. h) in
    ap (map content) (raw_lines-whole text c.if-is_empty.ensures none) ∙ ap (λ l. l ∷ []) (content_open text none)
