use Rattle.compose.proofs.OneLine.{IsOnTheWay}
use Rattle.compose.proofs.line.is_one_line.Given as goal

abbrev pub invariant-loop-character : goal.invariant-loop-character
invariant-loop-character l = record {
  can_next : (goal.iterator-loop-character).can_next l.character-iterator;
  ends : (goal.iterator-loop-character).is_finite l.character-iterator;
  way : IsOnTheWay l.follow l.begins l.yielded;
}
