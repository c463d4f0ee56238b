use Rattle.std.proofs.Common.{◌≡◌, drop, Some, sym, arith}
use Rattle.std.proofs.lemmas.List.{take_rest, length-drop}
use Rattle.encoded_words.specs.Words.{word_at}
use Rattle.encoded_words.specs.Views.{found}
use Rattle.encoded_words.proofs.WordLemmas.{word_at-shorter}
use Rattle.encoded_words.proofs.RunLemmas.{search_on, search_ends}
use Rattle.encoded_words.proofs.decode.first_word.Goals as goal

pub returns-in-Some : goal.returns-in-Some
returns-in-Some c =
    let bytes = c.args.bytes.now in
    let here = c.loop-at.at in
    let is : word_at (drop here bytes) ≡ Some (found c.in-Some.word) = rw take_rest at (sym c.in-Some.ensures) in
    let shorter = word_at-shorter (drop here bytes) (found c.in-Some.word) is in
    (search_ends bytes here (found c.in-Some.word) is c.loop-at.invariant, omega (arith, shorter, length-drop here bytes))

pub loop-at-preserved : goal.loop-at-preserved
loop-at-preserved c =
    let bytes = c.args.bytes.now in
    let here = c.loop-at.at in
    search_on bytes here _ (omega arith) (rw take_rest at (sym c.in_default.ensures)) c.loop-at.invariant
