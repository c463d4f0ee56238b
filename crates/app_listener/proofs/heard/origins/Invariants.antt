use Rattle.std.proofs.Common.{◌≡◌, map, take}
use Rattle.app_listener.specs.Hearing.{origin}
use Rattle.app_listener.proofs.heard.origins.Given as goal

-- the origins of the updates so far are there
abbrev pub invariant-loop-row : goal.invariant-loop-row
invariant-loop-row l = l.origins ≡ map origin (take l.row-index l.rows)
