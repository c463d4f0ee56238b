use Rattle.std.proofs.Common.{◌++◌, ◌+◌, ◌∙◌, sym, ap, append_assoc}
use Rattle.std.specs.Prelude.{flat_map, option_map}
use Rattle.std.proofs.lemmas.List.{append-nil}
use Rattle.mime_fields.specs.Sections.{section_bytes}
use Rattle.mime_fields.specs.Views.{held, sections_from, shown}
use Rattle.mime_fields.proofs.SectionLemmas.{sections-none, sections-some}
use Rattle.mime_fields.proofs.section.push_later_sections.Goals as goal

pub loop-number-preserved : goal.loop-number-preserved
loop-number-preserved c =
    let values = held c.args.values.now.firsts in
    let name = c.args.name.now in
    let number = c.loop-number.number in
    let count = c.args.values.now.count in
    let out = c.loop-number.out.items in
    let some = sections-some values name number count (shown c.in-Some.section) c.loop-number-test.true (sym c.in_ok-section.ensures ∙ ap (option_map shown) c.in-Some.is) in
    rw c.in_ok-push_section-in-Some.ensures
    (append_assoc out (section_bytes (shown c.in-Some.section)) (flat_map section_bytes (sections_from values name (number + 1) count))
    ∙ ap (λ ss. out ++ flat_map section_bytes ss) (sym some)
    ∙ c.loop-number.invariant)

pub returns-in-None : goal.returns-in-None
returns-in-None c =
    let out = c.loop-number.out.items in
    let none = sections-none (held c.args.values.now.firsts) c.args.name.now c.loop-number.number c.args.values.now.count c.loop-number-test.true (sym c.in_ok-section.ensures ∙ ap (option_map shown) c.in-None.is) in
    sym (append-nil out) ∙ ap (λ ss. out ++ flat_map section_bytes ss) (sym none) ∙ c.loop-number.invariant
