use Rattle.std.proofs.Common.{◌≡◌, ◌++◌, string_bytes, encode_utf8_all}
use Rattle.mailbox_model.specs.Printed.{field}
use Rattle.chat_print.proofs.fields.push_field.Given as goal

abbrev pub invariant-loop-character : goal.invariant-loop-character
invariant-loop-character l = record {
  can_next : (goal.iterator-loop-character).can_next l.character-iterator;
  ends : (goal.iterator-loop-character).is_finite l.character-iterator;
  so_far : string_bytes l.text ≡ string_bytes l.fn.text ++ field (encode_utf8_all l.yielded);
}
