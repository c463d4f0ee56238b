use Rattle.std.proofs.Common.{◌≡◌, drop, find, length}
use Rattle.kit.specs.Letters.{same_name}
use Rattle.mail_headers.specs.Layout.{fields_in, total}
use Rattle.mail_headers.proofs.fields.Fields.first.Given as goal

abbrev pub invariant-loop-lengths : goal.invariant-loop-lengths
invariant-loop-lengths l = record {
  full : total (drop l.lengths-index l.lengths-items) ≡ length l.left;
  found : find (λ field. same_name field.name l.name) (fields_in (drop l.lengths-index l.lengths-items) l.left)
      ≡ find (λ field. same_name field.name l.name) (fields_in l.self.lengths.items l.self.bytes.items);
}
