use Rattle.std.proofs.Common.{arith}
use Rattle.chatlist.proofs.Turns.{turned_left, turned_right}
use Rattle.chatlist.proofs.two_ended.turn.Goals as goal

pub returns-then-from-to : goal.returns-then-from-to
returns-then-from-to g c d = turned_left _ _ _ _ _ d c.if-from-to.true c.requires.to (omega (arith, c.if-from-to.true)) c.rotate_left.ensures.after

pub returns-else-from-to : goal.returns-else-from-to
returns-else-from-to g c d = turned_right _ _ _ _ _ d c.if-from-to.false c.requires.from (omega (arith, c.if-from-to.false)) c.rotate_right.ensures.after
