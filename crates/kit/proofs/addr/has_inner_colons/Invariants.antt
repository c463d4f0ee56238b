use Rattle.std.proofs.Common.{◌≡◌, drop, false}
use Rattle.kit.specs.Addresses.{has_inner_colons}
use Rattle.kit.proofs.addr.has_inner_colons.Given as goal

abbrev pub invariant-loop-b : goal.invariant-loop-b
invariant-loop-b l = has_inner_colons l.inside (drop l.b-index l.bytes) ≡ has_inner_colons false l.bytes
