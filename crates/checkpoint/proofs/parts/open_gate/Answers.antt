use Rattle.std.proofs.Common.{[], ◌∷◌, subst, sym}
use Rattle.outside.specs.Places.{Places, content, Changes}
use Rattle.outside.specs.Crash.{Holds, Torn}
use Rattle.outside.specs.Moments.{Reached, IsSettled}
use Rattle.outside.proofs.Moments.{weaker}
use Rattle.outside.proofs.Known.{known_as, known_with}
use Rattle.checkpoint.specs.Slots.{Slot}
use Rattle.checkpoint.specs.Saves.{SameOrNew}
use Rattle.checkpoint.specs.Parts.{IsReady, IsChosen}
use Rattle.checkpoint.proofs.Writes.{change_at}
use Rattle.checkpoint.proofs.Gates.{torn_open, opened}
use Rattle.checkpoint.proofs.Leaves.{on_ok_both, new_reached, new_done}
use Rattle.checkpoint.proofs.parts.open_gate.Goals as goal

pub returns-clause-any_moment : goal.returns-clause-any_moment
returns-clause-any_moment g c s is =
    let h = c.requires s is in
    let old = g.H.Shelf.may_leave c.args.shelf.now in
    let saved : Slot = record { number = c.args.number; image = c.args.image.now } in
    weaker g.H.Shelf.moment g.H.Shelf.left_since c.args.shelf.now c.write_and_sync.new.shelf (Reached old (Changes c.args.place (Torn 0 1))) (Reached old (SameOrNew saved)) c.write_and_sync.ensures.any_moment
    (new_reached c.args.place old s h.0 (Torn 0 1) saved h.2 (λ a b e torn. torn_open saved a b (subst (IsReady saved) (sym e) h.1) torn))

pub returns-clause-done : goal.returns-clause-done
returns-clause-done g c =
    let H = g.H.Shelf in
    let seen = H.seen in
    let old = H.may_leave c.args.shelf.now in
    let new = H.may_leave c.write_and_sync.new.shelf in
    let place = c.args.place in
    let saved : Slot = record { number = c.args.number; image = c.args.image.now } in
    let run = c.write_and_sync.ensures.any_moment in
    let reach = λ (x : Places) (left : new x). run.each x (g.met.H.Shelf.counts_now c.write_and_sync.new.shelf (H.moment c.args.shelf.now) x run.later left) in
    on_ok_both c.write_and_sync.result (λ holds settled. known_as (seen c.args.shelf.now) (seen c.write_and_sync.new.shelf) (λ x y. Changes place (Holds 0 (1 ∷ [])) x y × IsSettled place y new) (λ x y. IsChosen place saved new x y)
    (λ x y is p. let h = c.requires x is in new_done place old x h.0 (Torn 0 1) (Holds 0 (1 ∷ [])) new saved y h.2 p.0 p.1 reach (opened saved (content x place) (content y place) h.1 (change_at place (Holds 0 (1 ∷ [])) x y p.0)))
    (known_with (seen c.args.shelf.now) (seen c.write_and_sync.new.shelf) (Changes place (Holds 0 (1 ∷ []))) (λ y. IsSettled place y new) holds settled)) c.write_and_sync.ensures.holds c.write_and_sync.ensures.settled
