use Rattle.std.proofs.Common.{◌≡◌, ℕ, List, ◌++◌, ◌+◌, length}
use Rattle.kit.specs.Lines.{raw_lines}
use Rattle.mime_parts.specs.Multiparts.{closing_text, cut, delimiter_text, spans}
use Rattle.mime_parts.proofs.PartLemmas.{met}
use Rattle.mime_parts.proofs.multipart.parts_between.Given as goal

abbrev pub invariant-loop-raw : goal.invariant-loop-raw
invariant-loop-raw l = record {
  offset : l.at + length l.left ≡ l.start + length l.bytes;
  so_far : (boundary : List ℕ) → l.delimiter ≡ delimiter_text boundary → l.closing ≡ closing_text boundary
      → l.found.items ++ met l.part l.at (cut boundary (raw_lines l.left)) ≡ spans boundary l.start l.bytes;
}

abbrev pub decreases-loop-raw : goal.decreases-loop-raw
decreases-loop-raw l = length l.left
