use Rattle.std.proofs.Common.{◌≡◌, ◌+◌, ◌==◌, ◌≤◌, length, drop}
use Rattle.std.specs.List.{prefix_len}
use denote.Text.{Utf8}
use denote.Shadow.{shadow}
use Rattle.flowed_text.proofs.quoted.quoted_line.Given as goal

abbrev pub invariant-loop-rest : goal.invariant-loop-rest
invariant-loop-rest l = record {
  utf8 : shadow (Utf8 l.text);
  within : l.depth + length l.text ≤ length l.line;
  depth : l.depth + prefix_len (λ b. b == 62) l.text ≡ prefix_len (λ b. b == 62) l.line;
  rest : drop (prefix_len (λ b. b == 62) l.text) l.text ≡ drop (prefix_len (λ b. b == 62) l.line) l.line;
}

abbrev pub decreases-loop-rest : goal.decreases-loop-rest
decreases-loop-rest l = length l.text
