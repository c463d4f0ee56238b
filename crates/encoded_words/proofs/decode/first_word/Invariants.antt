use Rattle.std.proofs.Common.{◌≡◌, take, drop}
use Rattle.encoded_words.specs.Runs.{runs}
use Rattle.encoded_words.proofs.RunLemmas.{put_plain}
use Rattle.encoded_words.proofs.decode.first_word.Given as goal

abbrev pub invariant-loop-at : goal.invariant-loop-at
invariant-loop-at l = put_plain (take l.at l.bytes) (runs (drop l.at l.bytes)) ≡ runs l.bytes
