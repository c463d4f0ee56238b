use Rattle.std.proofs.Common.{◌≡◌, ◌++◌, ◌∷◌, ◌<◌, ◌∙◌, Some, sym, ap, arith}
use Rattle.std.specs.Prelude.{flat_map, option_map}
use Rattle.kit.specs.Charsets.{to_text}
use Rattle.mime_fields.specs.Sections.{numbered_sections, opening, section_bytes, sections_text}
use Rattle.mime_fields.specs.Views.{held, sections_from, shown}
use Rattle.mime_fields.proofs.SectionLemmas.{sections-all, sections-some}
use Rattle.mime_fields.proofs.section.numbered_text.Goals as goal

pub returns : goal.returns
returns c =
    let values = held c.args.values.now.firsts in
    let name = c.args.name.now in
    let count = c.args.values.now.count in
    let first = shown c.in-Some.first in
    let start = opening first in
    let later = flat_map section_bytes (sections_from values name 1 count) in
    let any : 0 < count = omega arith in
    let all : numbered_sections values count name ≡ first ∷ sections_from values name 1 count =
    sections-all values name count ∙ sections-some values name 0 count first any (sym c.in_ok-first.ensures ∙ ap (option_map shown) c.in-Some.is) in
    ap Some (c.in_ok-to_text.ensures
    ∙ ap (to_text c.in_ok-charset.charset) (c.deref.ensures.value ∙ c.in_ok-push_later_sections.ensures ∙ ap (λ bytes. bytes ++ later) c.in_ok-charset.ensures.bytes)
    ∙ ap (λ charset. to_text charset (section_bytes start.1 ++ later)) c.in_ok-charset.ensures.charset)
    ∙ sym (ap sections_text all)
