use Rattle.std.proofs.Common.{◌≡◌, [], ◌∷◌, true, inl, ap, ◌∙◌}
use Rattle.outside.specs.Places.{Places, content, Changes}
use Rattle.outside.specs.Crash.{Holds, Torn}
use Rattle.outside.specs.Moments.{Reached, IsSettled}
use Rattle.checkpoint.specs.Slots.{is_closed}
use Rattle.checkpoint.specs.Parts.{SameChosen, StaysChosen}
use Rattle.outside.proofs.Moments.{weaker}
use Rattle.outside.proofs.Known.{known_as, known_with}
use Rattle.checkpoint.proofs.Writes.{change_at}
use Rattle.checkpoint.proofs.Gates.{torn_close, made_closed, closed_slot}
use Rattle.checkpoint.proofs.Leaves.{on_ok_both, same_reached, same_done}
use Rattle.checkpoint.proofs.parts.close_gate.Goals as goal

pub returns-clause-any_moment : goal.returns-clause-any_moment
returns-clause-any_moment g c s is =
    let h = c.requires s is in
    let old = g.H.Shelf.may_leave c.args.shelf.now in
    weaker g.H.Shelf.moment g.H.Shelf.left_since c.args.shelf.now c.write_and_sync.new.shelf (Reached old (Changes c.args.place (Torn 0 1))) (Reached old SameChosen) c.write_and_sync.ensures.any_moment
    (same_reached c.args.place old s h.0 (Torn 0 1) (λ a b e torn. torn_close a b (ap is_closed e ∙ h.1) torn))

pub returns-clause-done : goal.returns-clause-done
returns-clause-done g c =
    let H = g.H.Shelf in
    let seen = H.seen in
    let old = H.may_leave c.args.shelf.now in
    let new = H.may_leave c.write_and_sync.new.shelf in
    let place = c.args.place in
    let run = c.write_and_sync.ensures.any_moment in
    let reach = λ (x : Places) (left : new x). run.each x (g.met.H.Shelf.counts_now c.write_and_sync.new.shelf (H.moment c.args.shelf.now) x run.later left) in
    on_ok_both c.write_and_sync.result (λ holds settled. known_as (seen c.args.shelf.now) (seen c.write_and_sync.new.shelf) (λ x y. Changes place (Holds 0 (0 ∷ [])) x y × IsSettled place y new) (λ x y. StaysChosen place new x y × (is_closed (content y place) ≡ true))
    (λ x y is p. let h = c.requires x is in let closed = made_closed (content x place) (content y place) (change_at place (Holds 0 (0 ∷ [])) x y p.0) in
    (same_done place old x h.0 (Torn 0 1) (Holds 0 (0 ∷ [])) new y p.0 p.1 reach (inl (closed_slot (content y place) closed)), closed))
    (known_with (seen c.args.shelf.now) (seen c.write_and_sync.new.shelf) (Changes place (Holds 0 (0 ∷ []))) (λ y. IsSettled place y new) holds settled)) c.write_and_sync.ensures.holds c.write_and_sync.ensures.settled
