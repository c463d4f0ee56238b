use Rattle.std.proofs.Common.{◌≡◌, ◌+◌, ◌≤◌, false, drop}
use Rattle.mail_address.specs.Tokens.{comment_len}
use Rattle.mail_address.proofs.token.comment_len.Given as goal

abbrev pub invariant-loop-at : goal.invariant-loop-at
invariant-loop-at l = record {
  bound : l.depth ≤ l.at + 1;
  same : l.at + comment_len l.depth l.escaped (drop l.at l.bytes) ≡ comment_len 1 false l.bytes;
}
