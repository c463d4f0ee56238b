use Rattle.std.proofs.Common.{◌≡◌, Bool, true, false, refl}
use Rattle.std.specs.Prelude.{◌&&◌}
use Rattle.card_type.proofs.record.weight.Goals as goal

-- what is true takes nothing from a conjunction
kept : (bounds envelope requests shown : Bool) → envelope ≡ true → requests ≡ true → shown ≡ true → (bounds && envelope && requests && shown) ≡ bounds
kept true envelope requests shown e r s = rw (e, r, s) refl
kept false envelope requests shown e r s = refl

pub returns-clause-types : goal.returns-clause-types
returns-clause-types c = kept _ _ _ _ c.envelope_weight.ensures.types c.requests_weight.ensures.types c.shown_weight.ensures.types
