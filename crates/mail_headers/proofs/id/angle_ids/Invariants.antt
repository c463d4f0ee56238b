use Rattle.std.proofs.Common.{◌≡◌, ◌++◌, length, map, filter}
use Rattle.kit.specs.Ids.{is_id}
use Rattle.mail_headers.specs.Ids.{angles, without_white}
use Rattle.mail_headers.proofs.id.angle_ids.Given as goal

abbrev pub invariant-loop-inside : goal.invariant-loop-inside
invariant-loop-inside l = l.found.items ++ filter is_id (map without_white (angles l.rest)) ≡ filter is_id (map without_white (angles l.body))

abbrev pub decreases-loop-inside : goal.decreases-loop-inside
decreases-loop-inside l = length l.rest
