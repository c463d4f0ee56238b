use Rattle.std.proofs.Common.{◌≡◌, ◌++◌, length}
use Rattle.std.specs.Prelude.{not, string_bytes, take_while}
use denote.Text.{Utf8}
use denote.Shadow.{shadow}
use Rattle.flowed_text.specs.Flowed.{is_signature, line_texts, user_text}
use Rattle.flowed_text.proofs.AboveLemmas.{text_after}
use Rattle.flowed_text.proofs.signature.user_text.Given as goal

abbrev pub invariant-loop-line : goal.invariant-loop-line
invariant-loop-line l = record {
  utf8 : shadow (Utf8 l.left);
  so_far : string_bytes l.above ++ text_after l.first (take_while (λ line. not (is_signature line)) (line_texts l.left)) ≡ user_text l.text;
}

abbrev pub decreases-loop-line : goal.decreases-loop-line
decreases-loop-line l = length l.left
