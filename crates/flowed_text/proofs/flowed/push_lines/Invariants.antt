use Rattle.std.proofs.Common.{◌≡◌, ◌++◌, length}
use Rattle.std.specs.Prelude.{map, string_bytes}
use denote.Text.{Utf8}
use denote.Shadow.{shadow}
use Rattle.flowed_text.specs.Flowed.{line_texts, quoted_line, unflow}
use Rattle.flowed_text.proofs.WrittenLemmas.{written_from}
use Rattle.flowed_text.proofs.flowed.push_lines.Given as goal

abbrev pub invariant-loop-line : goal.invariant-loop-line
invariant-loop-line l = record {
  utf8 : shadow (Utf8 l.left);
  so_far : string_bytes l.out ++ written_from l.delsp l.continues (map quoted_line (line_texts l.left)) ≡ string_bytes l.fn.out ++ unflow l.text l.delsp;
}

abbrev pub decreases-loop-line : goal.decreases-loop-line
decreases-loop-line l = length l.left
