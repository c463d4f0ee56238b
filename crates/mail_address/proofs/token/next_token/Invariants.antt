use Rattle.std.proofs.Common.{◌≡◌, ◌≤◌, length}
use Rattle.mail_address.specs.Tokens.{tokens}
use Rattle.mail_address.proofs.token.next_token.Given as goal

abbrev pub invariant-loop-lexeme : goal.invariant-loop-lexeme
invariant-loop-lexeme l = record {
  bound : length l.rest ≤ length l.bytes;
  same : tokens l.rest ≡ tokens l.bytes;
}

abbrev pub decreases-loop-lexeme : goal.decreases-loop-lexeme
decreases-loop-lexeme l = length l.rest
