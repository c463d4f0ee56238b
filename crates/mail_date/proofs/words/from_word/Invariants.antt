use Rattle.std.proofs.Common.{◌≡◌, ◌≤◌, drop}
use Rattle.mail_date.specs.Words.{without_comments, nonempty_parts, words}
use Rattle.mail_date.proofs.words.from_word.Given as goal

abbrev pub invariant-loop-at : goal.invariant-loop-at
invariant-loop-at l = record {
  bound : l.depth ≤ l.at;
  same : nonempty_parts (without_comments l.depth l.escaped (drop l.at l.bytes)) ≡ words l.bytes;
}
