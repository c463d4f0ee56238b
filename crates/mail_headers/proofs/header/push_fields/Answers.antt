use Rattle.std.proofs.Common.{◌≡◌, true, false, [], ◌++◌, List, sym, ap, ◌∙◌, append_assoc}
use Rattle.std.proofs.lemmas.List.{append-nil}
use Rattle.kit.specs.Lines.{raw_lines, content}
use Rattle.mail_headers.specs.Fields.{Field, fields_of}
use Rattle.mail_headers.specs.Headers.{is_empty, header_lines}
use Rattle.mail_headers.specs.Layout.{all_fields}
use Rattle.mail_headers.proofs.FieldLines.{fields_of-next}
use Rattle.mail_headers.proofs.HeaderLines.{header_lines-filled, header_lines-empty}
use Rattle.mail_headers.proofs.header.push_fields.Goals as goal
use Rattle.mail_headers.proofs.header.push_fields.Goals.{in_default, in-Some+then-is_empty}

pub loop-raw-preserved : goal.loop-raw-preserved
loop-raw-preserved c =
    let raw = c.in-Some.raw.now in
    let rest = raw_lines c.in-Some.rest.now in
    let old = all_fields c.loop-raw.fields in
    let filled : is_empty (content raw) ≡ false = ap is_empty (sym c.content-line.ensures) ∙ (sym c.is_empty.ensures ∙ c.if-is_empty.false) in
    let next =
    ap (λ raws. fields_of (header_lines raws)) c.in-Some.ensures.lines
    ∙ (ap fields_of (header_lines-filled raw rest filled) ∙ fields_of-next (content raw) rest) in
    record {
      full = c.in_ok-push_line.ensures.full;
      fields = rw (c.in_ok-push_line.ensures.fields, c.content-line.ensures, append_assoc) (ap (λ (fs : List Field). old ++ fs) (sym next) ∙ c.loop-raw.invariant.fields);
    }

pub returns : goal.returns
returns c =
    let fields = all_fields c.loop-raw.fields in
    let none : fields_of (header_lines (raw_lines c.loop-raw.left.now)) ≡ [] =
    elim c.match-split_line.branch [
      | in_default w ↦ ap (λ raws. fields_of (header_lines raws)) w.in_default.ensures.lines
      | in-Some+then-is_empty w ↦ (
          let raw = w.in-Some.raw.now in
          let rest = raw_lines w.in-Some.rest.now in
          let empty : is_empty (content raw) ≡ true = ap is_empty (sym w.content-line.ensures) ∙ (sym w.is_empty.ensures ∙ w.if-is_empty.true) in
          ap (λ raws. fields_of (header_lines raws)) w.in-Some.ensures.lines ∙ ap fields_of (header_lines-empty raw rest empty))
    ] in
    record {
      full = c.loop-raw.invariant.full;
      fields = sym (append-nil fields) ∙ (ap (λ (fs : List Field). fields ++ fs) (sym none) ∙ c.loop-raw.invariant.fields);
    }
