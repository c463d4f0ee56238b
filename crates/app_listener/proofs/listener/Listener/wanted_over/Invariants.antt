use Rattle.std.proofs.Common.{◌≡◌, take}
use Rattle.app_listener.specs.Hearing.{wanted_over}
use Rattle.app_listener.proofs.listener.Listener.wanted_over.Given as goal

-- the wanted updates so far are there
abbrev pub invariant-loop-row : goal.invariant-loop-row
invariant-loop-row g l = l.copies ≡ wanted_over (g.T.Test.wanted l.self.test) l.serial (take l.row-index l.rows)
