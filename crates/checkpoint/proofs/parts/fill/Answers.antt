use Rattle.std.proofs.Common.{inl, ap, ◌∙◌, arith}
use Rattle.outside.specs.Places.{Places, content, Changes}
use Rattle.outside.specs.Crash.{Holds}
use Rattle.outside.specs.Moments.{Reached, IsSettled}
use Rattle.outside.proofs.Moments.{weaker}
use Rattle.outside.proofs.Known.{known_as, known_with}
use Rattle.checkpoint.specs.Slots.{Slot, is_closed, body_spelled}
use Rattle.checkpoint.specs.Parts.{IsReady, SameGate, SameChosen, StaysChosen}
use Rattle.checkpoint.proofs.Writes.{change_at}
use Rattle.checkpoint.proofs.Gates.{stays_closed, closed_slot, ready}
use Rattle.checkpoint.proofs.Leaves.{on_ok_both, same_reached, same_done}
use Rattle.checkpoint.proofs.parts.fill.Goals as goal

pub returns-clause-any_moment : goal.returns-clause-any_moment
returns-clause-any_moment g c s is =
    let h = c.requires s is in
    let old = g.H.Shelf.may_leave c.args.shelf.now in
    weaker g.H.Shelf.moment g.H.Shelf.left_since c.args.shelf.now c.write_body.new.shelf (Reached old (Changes c.args.place SameGate)) (Reached old SameChosen) c.write_body.ensures.any_moment
    (same_reached c.args.place old s h.0 SameGate (λ a b e same. inl (closed_slot b (stays_closed a b same (ap is_closed e ∙ h.1)))))

pub returns-clause-done : goal.returns-clause-done
returns-clause-done g c =
    let H = g.H.Shelf in
    let seen = H.seen in
    let old = H.may_leave c.args.shelf.now in
    let new = H.may_leave c.write_body.new.shelf in
    let place = c.args.place in
    let saved : Slot = record { number = c.args.number; image = c.args.image.now } in
    let body = Holds 1 (body_spelled c.args.number c.args.image.now) in
    let run = c.write_body.ensures.any_moment in
    let reach = λ (x : Places) (left : new x). run.each x (g.met.H.Shelf.counts_now c.write_body.new.shelf (H.moment c.args.shelf.now) x run.later left) in
    on_ok_both c.write_body.result (λ holds settled. known_as (seen c.args.shelf.now) (seen c.write_body.new.shelf) (λ x y. Changes place body x y × IsSettled place y new) (λ x y. StaysChosen place new x y × IsReady saved (content y place))
    (λ x y is p. let h = c.requires x is in let r = ready c.args.number c.args.image.now (content x place) (content y place) (omega arith) (omega arith) h.1 (change_at place body x y p.0) in
    (same_done place old x h.0 SameGate body new y p.0 p.1 reach (inl (closed_slot (content y place) r.closed)), r))
    (known_with (seen c.args.shelf.now) (seen c.write_body.new.shelf) (Changes place body) (λ y. IsSettled place y new) holds settled)) c.write_body.ensures.holds c.write_body.ensures.settled
