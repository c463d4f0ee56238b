use Rattle.std.proofs.Common.{◌++◌, string_bytes, ap, sym, ◌∙◌, map-id}
use Rattle.std.specs.Str.{encode_utf8_all}
use Rattle.std.proofs.lemmas.Iterator.{YieldsList-from_chars, YieldsList-from_take}
use Rattle.std.proofs.lemmas.Iterator.Consumers.{YieldsList-end, YieldsList-at}
use Rattle.mailbox_model.specs.Printed.{field}
use Rattle.chat_print.proofs.Spaces.{one_more}
use Rattle.chat_print.proofs.fields.push_short.Goals as goal

pub loop-character-preserved : goal.loop-character-preserved
loop-character-preserved c = record {
  can_next = tt;
  ends = tt;
  so_far = one_more _ c.loop-character.yielded _ _ c.in-Some.character c.printed.result c.loop-character.invariant.so_far c.printed.ensures c.in_ok-push.ensures.bytes;
}

pub returns : goal.returns
returns c =
    let road = YieldsList-from_take 60 (YieldsList-at c.take-character-items.ensures.source (YieldsList-from_chars c.args.body.now c.utf8.body c.chars.ensures.rest)) c.take-character-items.ensures.count in
    let end = YieldsList-end (YieldsList-at c.into_iter-character-iterator.ensures.into_iter_gives road)
    c.loop-character.yielded c.loop-character.character-iterator c.loop-character.yielded_by c.next.result c.next.new.self c.in-None.is c.next.ensures.steps in
    c.loop-character.invariant.so_far ∙ ap (λ cs. string_bytes c.args.text.now ++ field (encode_utf8_all cs)) (sym (map-id c.loop-character.yielded) ∙ end.0)
