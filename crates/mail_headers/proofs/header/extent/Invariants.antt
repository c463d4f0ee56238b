use Rattle.std.proofs.Common.{◌≡◌, ◌≤◌, ◌+◌, ◌-◌, length}
use Rattle.kit.specs.Lines.{raw_lines}
use Rattle.mail_headers.specs.Headers.{header_len}
use Rattle.mail_headers.proofs.header.extent.Given as goal

abbrev pub invariant-loop-raw : goal.invariant-loop-raw
invariant-loop-raw l = record {
  within : l.lines + length l.left ≤ length l.mail;
  offset : (length l.mail - length l.left) + header_len (raw_lines l.left) ≡ header_len (raw_lines l.mail);
}

abbrev pub decreases-loop-raw : goal.decreases-loop-raw
decreases-loop-raw l = length l.left
