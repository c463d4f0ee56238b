use Rattle.std.proofs.Common.{◌≡◌, ◌++◌, ◌+◌, length}
use Rattle.kit.specs.Lines.{raw_lines, placed, lines}
use Rattle.kit.proofs.line.lines.Given as goal

abbrev pub invariant-loop-raw : goal.invariant-loop-raw
invariant-loop-raw l = record {
  within : l.start + length l.left ≡ length l.bytes;
  so_far : l.found.items ++ placed l.start (raw_lines l.left) ≡ lines l.bytes;
}

abbrev pub decreases-loop-raw : goal.decreases-loop-raw
decreases-loop-raw l = length l.left
