-- What a contract sees of a word that is borrowed from its bytes.
use Rattle.encoded_words.specs.declared.word.Word.{Word}
use Rattle.encoded_words.specs.Words.{Found}

abbrev pub found : Word → Found
found w = record { charset = w.charset; coding = w.coding; text = w.text.now; rest = w.rest.now }
