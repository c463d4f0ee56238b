use Rattle.std.specs.Prelude.{string_bytes}
use Rattle.chat_card.proofs.LineLemmas.{IsOnTheWay}
use Rattle.chat_card.proofs.line.one_line.Given as goal

abbrev pub invariant-loop-character : goal.invariant-loop-character
invariant-loop-character l = record {
  can_next : (goal.iterator-loop-character).can_next l.character-iterator;
  ends : (goal.iterator-loop-character).is_finite l.character-iterator;
  way : IsOnTheWay (string_bytes l.line) l.begins l.yielded;
}
