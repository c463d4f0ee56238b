use Rattle.std.proofs.Common.{◌≡◌, ◌<◌, arith, length, sym, ◌∙◌, map-id}
use Rattle.std.specs.Prelude.{chars}
use Rattle.std.proofs.lemmas.Iterator.{YieldsList-from_chars}
use Rattle.std.proofs.lemmas.Iterator.Consumers.{YieldsList-at, YieldsList-end}
use Rattle.compose.proofs.OneLine.{empty_line, line_read}
use Rattle.compose.proofs.line.is_one_line.Goals as goal

pub returns-then-is_empty : goal.returns-then-is_empty
returns-then-is_empty c =
    let none : length c.args.text.now ≡ 0 = grind (arith, c.is_empty.ensures, c.if-is_empty.true) in
    empty_line c.args.text.now none

pub returns : goal.returns
returns c =
    let text = c.args.text.now in
    let some : 0 < length text = grind (arith, c.is_empty.ensures, c.if-is_empty.false) in
    let road = YieldsList-from_chars text c.utf8.text c.chars-character-items.ensures.rest in
    let end = YieldsList-end (YieldsList-at c.into_iter-character-iterator.ensures.into_iter_gives road)
    c.loop-character.yielded c.loop-character.character-iterator c.loop-character.yielded_by c.next.result c.next.new.self c.in-None.is c.next.ensures.steps in
    let all : c.loop-character.yielded ≡ chars text = sym (map-id c.loop-character.yielded) ∙ end.0 in
    line_read text c.loop-character.yielded c.loop-character.follow c.loop-character.begins c.utf8.text some all c.loop-character.invariant.way
