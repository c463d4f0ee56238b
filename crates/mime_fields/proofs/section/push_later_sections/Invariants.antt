use Rattle.std.proofs.Common.{◌≡◌, ◌++◌}
use Rattle.std.specs.Prelude.{flat_map}
use Rattle.mime_fields.specs.Sections.{section_bytes}
use Rattle.mime_fields.specs.Views.{held, sections_from}
use Rattle.mime_fields.proofs.section.push_later_sections.Given as goal

abbrev pub invariant-loop-number : goal.invariant-loop-number
invariant-loop-number l =
    l.out.items ++ flat_map section_bytes (sections_from (held l.values.firsts) l.name l.number l.values.count)
    ≡ l.fn.out.items ++ flat_map section_bytes (sections_from (held l.values.firsts) l.name 1 l.values.count)
