use Rattle.std.proofs.Common.{◌≡◌, ◌++◌, true, false, ap, sym, ◌∙◌, subst, map-id}
use Rattle.std.specs.Prelude.{chars, string_bytes}
use Rattle.std.proofs.lemmas.Iterator.{YieldsList-from_chars}
use Rattle.std.proofs.lemmas.Iterator.Consumers.{YieldsList-at, YieldsList-end}
use Rattle.std.proofs.lemmas.Str.{IsUtf8-string_bytes, chars-nil}
use Rattle.card_type.specs.Kinds.{has_some}
use Rattle.chat_card.proofs.LineLemmas.{IsOnTheWay, line_made, onward, spaced_more, word_more}
use Rattle.chat_card.proofs.line.one_line.Goals as goal

pub loop-character-init : goal.loop-character-init
loop-character-init c = record {
  can_next = tt;
  ends = tt;
  way = λ ds. ap (λ bytes. chars bytes ++ onward (has_some bytes) true ds) c.new-line.ensures.bytes ∙ ap (λ cs. cs ++ onward false true ds) chars-nil;
}

pub loop-character-preserved-then-is_space : goal.loop-character-preserved-then-is_space
loop-character-preserved-then-is_space c = record {
  can_next = tt;
  ends = tt;
  way = spaced_more _ c.loop-character.yielded _ c.in-Some.character (sym c.is_space.ensures ∙ c.if-is_space.true) c.loop-character.invariant.way;
}

pub loop-character-preserved : goal.loop-character-preserved
loop-character-preserved c = record {
  can_next = tt;
  ends = tt;
  way = word_more _ _ c.loop-character.yielded _ c.in-Some.character (sym c.is_space.ensures ∙ c.if-is_space.false) c.in_ok-push_character.ensures c.loop-character.invariant.way;
}

pub returns : goal.returns
returns c =
    let text = c.args.text.now in
    let line = string_bytes c.loop-character.line in
    let road = YieldsList-from_chars text c.utf8.text c.chars-character-items.ensures.rest in
    let end = YieldsList-end (YieldsList-at c.into_iter-character-iterator.ensures.into_iter_gives road)
    c.loop-character.yielded c.loop-character.character-iterator c.loop-character.yielded_by c.next.result c.next.new.self c.in-None.is c.next.ensures.steps in
    let all : c.loop-character.yielded ≡ chars text = sym (map-id c.loop-character.yielded) ∙ end.0 in
    line_made line text c.loop-character.begins (IsUtf8-string_bytes c.loop-character.line) (subst (IsOnTheWay line c.loop-character.begins) all c.loop-character.invariant.way)
