use Rattle.chat_print.proofs.Spaces.{one_more}
use Rattle.chat_print.proofs.fields.push_field.Goals as goal

pub loop-character-preserved : goal.loop-character-preserved
loop-character-preserved c = record {
  can_next = tt;
  ends = tt;
  so_far = one_more _ c.loop-character.yielded _ _ c.in-Some.character c.printed.result c.loop-character.invariant.so_far c.printed.ensures c.in_ok-push.ensures.bytes;
}
