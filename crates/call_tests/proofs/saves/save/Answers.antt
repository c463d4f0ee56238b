use Rattle.std.proofs.Common.{◌≡◌, ◌<◌, ℕ, Option, None, Some, IfSome, arith}
use Rattle.outside.specs.declared.shelf.Place.{Place}
use Rattle.checkpoint.specs.Kept.{count_of, number_of}
use Rattle.checkpoint.specs.Saves.{IsAbove}
use Rattle.checkpoint.specs.Slots.{Slot, chosen_of}
use Rattle.call_tests.proofs.saves.save.Goals as goal

above : (chosen : Option (Place × Slot)) (count : Option ℕ) (number : ℕ) → number_of chosen ≡ count → IfSome count (λ count. count < number) → IsAbove number chosen
above None count number is less = tt
above (Some p) None number is less = absurd cc
above (Some p) (Some count) number is less = (let same : p.1.number ≡ count = cc in omega (arith, same, less))

pub save-requires-clause-above : goal.save-requires-clause-above
save-requires-clause-above c = λ places told.
    above (chosen_of places) (count_of c.in-Ok.field-0.kept) c.args.number (c.in-Ok.ensures.number places told) (c.is_above.ensures c.if-not-is_above.false)
