use Rattle.std.proofs.Common.{◌++◌, List, ℕ, length, OnOk, subst}
use Rattle.std.specs.Int.{w64, to_be_bytes}
use Rattle.outside.specs.Places.{Changes}
use Rattle.outside.specs.Crash.{Holds}
use Rattle.outside.specs.Moments.{KnownThen}
use Rattle.checkpoint.specs.Slots.{body_spelled}
use Rattle.checkpoint.proofs.body.write_body.Goals as goal

pub returns-clause-holds : goal.returns-clause-holds
unfolding body_spelled
returns-clause-holds g c =
    let seen = g.H.Shelf.seen in
    let place = c.args.place in
    let R = λ (x : List ℕ) (y : List ℕ). OnOk c.write_three.result (KnownThen (seen c.args.shelf.now) (seen c.write_three.new.shelf) (Changes place (Holds 1 (x ++ y ++ c.args.image.now)))) in
    subst (λ (x : List ℕ). R x (to_be_bytes w64 (length c.args.image.now))) c.to_be_bytes-number.ensures
    (subst (λ (y : List ℕ). R c.to_be_bytes-number.result y) c.to_be_bytes-len.ensures c.write_three.ensures.holds)
