use Rattle.std.proofs.Common.{◌≡◌, ◌++◌, length}
use Rattle.kit.specs.Lines.{raw_lines}
use Rattle.mail_headers.specs.Fields.{fields_of}
use Rattle.mail_headers.specs.Headers.{header_lines}
use Rattle.mail_headers.specs.Layout.{IsFull, all_fields}
use Rattle.mail_headers.proofs.header.push_fields.Given as goal

abbrev pub invariant-loop-raw : goal.invariant-loop-raw
invariant-loop-raw l = record {
  full : IsFull l.fields;
  fields : all_fields l.fields ++ fields_of (header_lines (raw_lines l.left))
      ≡ all_fields l.fn.fields ++ fields_of (header_lines (raw_lines l.mail));
}

abbrev pub decreases-loop-raw : goal.decreases-loop-raw
decreases-loop-raw l = length l.left
