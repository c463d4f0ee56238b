use Rattle.std.proofs.Common.{◌∙◌}
use Rattle.mail_date.proofs.WordLemmas.{words-first, word_end_or_length}
use Rattle.mail_date.proofs.words.split_word.Goals as goal

pub returns : goal.returns
returns c =
    let at = rw c.word_end.ensures.value at c.unwrap_or.ensures ∙ word_end_or_length c.args.bytes.now in
    rw (c.split_at.ensures.front, c.split_at.ensures.back, at) (words-first c.args.bytes.now c.requires.some c.requires.word)
