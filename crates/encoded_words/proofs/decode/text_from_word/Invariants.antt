use Rattle.std.proofs.Common.{◌≡◌, ◌++◌, true, length}
use Rattle.std.specs.String.{string_bytes}
use Rattle.kit.specs.declared.charset.Charset.TheVariants.{Utf8}
use Rattle.kit.specs.Charsets.{to_text}
use Rattle.encoded_words.specs.Runs.{text_of, rewritten, runs}
use Rattle.encoded_words.specs.Views.{found}
use Rattle.encoded_words.specs.Words.{word_text}
use Rattle.encoded_words.proofs.decode.text_from_word.Given as goal

abbrev pub invariant-loop-plain : goal.invariant-loop-plain
invariant-loop-plain l =
    string_bytes l.out ++ text_of (rewritten true (runs l.rest))
    ≡ to_text Utf8 l.fn.plain ++ word_text (found l.fn.word) ++ text_of (rewritten true (runs l.fn.word.rest.now))

abbrev pub decreases-loop-plain : goal.decreases-loop-plain
decreases-loop-plain l = length l.rest
