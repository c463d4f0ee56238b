use Rattle.std.proofs.Common.{◌≡◌, ℕ, List, take}
use Rattle.effects.specs.Named.{named, without_spot}
use Rattle.effects.proofs.Puts.{done}
use Rattle.effects.proofs.effects.Effects.remove.Given as goal

-- it is done under the ids so far
abbrev pub invariant-loop-id : goal.invariant-loop-id
invariant-loop-id l = (id : List ℕ) → named l.self id ≡ done (without_spot l.spot) (take l.id-index l.id-items) id (named l.fn.self id)
