use Rattle.std.proofs.Common.{◌≡◌, true, subst, sym, ◌∙◌}
use Rattle.outside.specs.Places.{Places, content}
use Rattle.outside.specs.Moments.{Reached}
use Rattle.checkpoint.specs.Slots.{Slot, is_closed, other_place}
use Rattle.checkpoint.specs.Saves.{IsAbove, SameOrNew}
use Rattle.checkpoint.specs.Parts.{IsReady, SameChosen, StaysChosen, IsChosen}
use Rattle.outside.proofs.Moments.{weaker, and_then}
use Rattle.outside.proofs.Known.{known_on}
use Rattle.checkpoint.proofs.Saved.{as_new, same_same, same_new, stays_target, others_on}
use Rattle.checkpoint.proofs.slots.save_at.Goals as goal

pub returns-in_err-make_closed-clause-any_moment : goal.returns-in_err-make_closed-clause-any_moment
returns-in_err-make_closed-clause-any_moment g c s is =
    let first = g.H.Shelf.may_leave c.args.shelf.now in
    let saved : Slot = record { number = c.args.number; image = c.args.image.now } in
    weaker g.H.Shelf.moment g.H.Shelf.left_since c.args.shelf.now c.make_closed.new.shelf (Reached first SameChosen) (Reached first (SameOrNew saved)) (c.make_closed.ensures.any_moment s is) (as_new saved first)

pub returns-in_err-fill-clause-any_moment : goal.returns-in_err-fill-clause-any_moment
returns-in_err-fill-clause-any_moment g c s is =
    let m = g.H.Shelf.moment in
    let l = g.H.Shelf.left_since in
    let old = c.args.shelf.now in
    let place = c.args.place in
    let first = g.H.Shelf.may_leave old in
    let saved : Slot = record { number = c.args.number; image = c.args.image.now } in
    let one = c.make_closed.ensures.any_moment s is in
    let mid = c.make_closed.new.shelf in
    let back = λ (x : Places) (left : g.H.Shelf.may_leave mid x). one.each x (g.met.H.Shelf.counts_now mid (m old) x one.later left) in
    let told = c.in_ok-make_closed.ensures.done.forth s is in
    let filled = c.fill.ensures.any_moment told.places told.is in
    let two = and_then m l old mid c.fill.new.shelf (Reached first SameChosen) (Reached (g.H.Shelf.may_leave mid) SameChosen) (Reached first SameChosen) one filled (λ x r. r) (same_same first (g.H.Shelf.may_leave mid) back) in
    weaker m l old c.fill.new.shelf (Reached first SameChosen) (Reached first (SameOrNew saved)) two (as_new saved first)

pub returns-in_err-open_gate-clause-any_moment : goal.returns-in_err-open_gate-clause-any_moment
returns-in_err-open_gate-clause-any_moment g c s is =
    let m = g.H.Shelf.moment in
    let l = g.H.Shelf.left_since in
    let old = c.args.shelf.now in
    let place = c.args.place in
    let first = g.H.Shelf.may_leave old in
    let saved : Slot = record { number = c.args.number; image = c.args.image.now } in
    let one = c.make_closed.ensures.any_moment s is in
    let mid = c.make_closed.new.shelf in
    let back = λ (x : Places) (left : g.H.Shelf.may_leave mid x). one.each x (g.met.H.Shelf.counts_now mid (m old) x one.later left) in
    let told = c.in_ok-make_closed.ensures.done.forth s is in
    let filled = c.fill.ensures.any_moment told.places told.is in
    let two = and_then m l old mid c.fill.new.shelf (Reached first SameChosen) (Reached (g.H.Shelf.may_leave mid) SameChosen) (Reached first SameChosen) one filled (λ x r. r) (same_same first (g.H.Shelf.may_leave mid) back) in
    let mid2 = c.fill.new.shelf in
    let back2 = λ (x : Places) (left : g.H.Shelf.may_leave mid2 x). two.each x (g.met.H.Shelf.counts_now mid2 (m old) x two.later left) in
    let told2 = c.in_ok-fill.ensures.done.forth told.places told.is in
    let opened = c.open_gate.ensures.any_moment told2.places told2.is in
    and_then m l old mid2 c.open_gate.new.shelf (Reached first SameChosen) (Reached (g.H.Shelf.may_leave mid2) (SameOrNew saved)) (Reached first (SameOrNew saved)) two opened (as_new saved first) (same_new saved first (g.H.Shelf.may_leave mid2) back2)

pub returns-clause-any_moment : goal.returns-clause-any_moment
returns-clause-any_moment g c s is =
    let m = g.H.Shelf.moment in
    let l = g.H.Shelf.left_since in
    let old = c.args.shelf.now in
    let place = c.args.place in
    let first = g.H.Shelf.may_leave old in
    let saved : Slot = record { number = c.args.number; image = c.args.image.now } in
    let one = c.make_closed.ensures.any_moment s is in
    let mid = c.make_closed.new.shelf in
    let back = λ (x : Places) (left : g.H.Shelf.may_leave mid x). one.each x (g.met.H.Shelf.counts_now mid (m old) x one.later left) in
    let told = c.in_ok-make_closed.ensures.done.forth s is in
    let filled = c.fill.ensures.any_moment told.places told.is in
    let two = and_then m l old mid c.fill.new.shelf (Reached first SameChosen) (Reached (g.H.Shelf.may_leave mid) SameChosen) (Reached first SameChosen) one filled (λ x r. r) (same_same first (g.H.Shelf.may_leave mid) back) in
    let mid2 = c.fill.new.shelf in
    let back2 = λ (x : Places) (left : g.H.Shelf.may_leave mid2 x). two.each x (g.met.H.Shelf.counts_now mid2 (m old) x two.later left) in
    let told2 = c.in_ok-fill.ensures.done.forth told.places told.is in
    let opened = c.open_gate.ensures.any_moment told2.places told2.is in
    and_then m l old mid2 c.open_gate.new.shelf (Reached first SameChosen) (Reached (g.H.Shelf.may_leave mid2) (SameOrNew saved)) (Reached first (SameOrNew saved)) two opened (as_new saved first) (same_new saved first (g.H.Shelf.may_leave mid2) back2)

pub fill-requires : goal.fill-requires
fill-requires g c n is =
    let b = c.in_ok-make_closed.ensures.done.back n is in
    let h = c.requires b.places b.is in
    (stays_target c.args.place (g.H.Shelf.may_leave c.args.shelf.now) (g.H.Shelf.may_leave c.make_closed.new.shelf) b.places n h.0 b.holds.0, b.holds.1)

pub open_gate-requires : goal.open_gate-requires
open_gate-requires g c n is =
    let b = c.in_ok-fill.ensures.done.back n is in
    let a = c.in_ok-make_closed.ensures.done.back b.places b.is in
    let h = c.requires a.places a.is in
    let mid = stays_target c.args.place (g.H.Shelf.may_leave c.args.shelf.now) (g.H.Shelf.may_leave c.make_closed.new.shelf) a.places b.places h.0 a.holds.0 in (
      stays_target c.args.place (g.H.Shelf.may_leave c.make_closed.new.shelf) (g.H.Shelf.may_leave c.fill.new.shelf) b.places n mid b.holds.0,
      b.holds.1,
      subst (IsAbove c.args.number) (sym (b.holds.0.same ∙ a.holds.0.same)) h.2,
    )

pub returns-clause-done : goal.returns-clause-done
returns-clause-done g c =
    let seen = g.H.Shelf.seen in
    let place = c.args.place in
    let saved : Slot = record { number = c.args.number; image = c.args.image.now } in
    let at_one = g.H.Shelf.may_leave c.make_closed.new.shelf in
    let at_two = g.H.Shelf.may_leave c.fill.new.shelf in
    let at_three = g.H.Shelf.may_leave c.open_gate.new.shelf in
    known_on (seen c.args.shelf.now) (seen c.fill.new.shelf) (seen c.open_gate.new.shelf) (λ x y. content y (other_place place) ≡ content x (other_place place)) (IsChosen place saved at_three) (IsChosen place saved at_three)
    (λ x y z is p q. record { settled = q.settled; is = q.is; other = q.other ∙ p })
    (known_on (seen c.args.shelf.now) (seen c.make_closed.new.shelf) (seen c.fill.new.shelf) (λ x y. StaysChosen place at_one x y × (is_closed (content y place) ≡ true)) (λ x y. StaysChosen place at_two x y × IsReady saved (content y place)) (λ x y. content y (other_place place) ≡ content x (other_place place))
    (λ x y z is p q. q.0.other ∙ p.0.other) c.in_ok-make_closed.ensures.done c.in_ok-fill.ensures.done)
    c.in_ok-open_gate.ensures.done

pub make_closed-requires : goal.make_closed-requires
make_closed-requires g c s is = let h = c.requires s is in (h.0, h.1)

pub returns-in_err-fill-clause-others : goal.returns-in_err-fill-clause-others
returns-in_err-fill-clause-others g c =
    let seen = g.H.Shelf.seen in
    others_on c.args.place (seen c.args.shelf.now) (seen c.make_closed.new.shelf) (seen c.fill.new.shelf) c.make_closed.ensures.others c.fill.ensures.others

pub returns-in_err-open_gate-clause-others : goal.returns-in_err-open_gate-clause-others
returns-in_err-open_gate-clause-others g c =
    let seen = g.H.Shelf.seen in
    others_on c.args.place (seen c.args.shelf.now) (seen c.fill.new.shelf) (seen c.open_gate.new.shelf)
    (others_on c.args.place (seen c.args.shelf.now) (seen c.make_closed.new.shelf) (seen c.fill.new.shelf) c.make_closed.ensures.others c.fill.ensures.others) c.open_gate.ensures.others

pub returns-clause-others : goal.returns-clause-others
returns-clause-others g c =
    let seen = g.H.Shelf.seen in
    others_on c.args.place (seen c.args.shelf.now) (seen c.fill.new.shelf) (seen c.open_gate.new.shelf)
    (others_on c.args.place (seen c.args.shelf.now) (seen c.make_closed.new.shelf) (seen c.fill.new.shelf) c.make_closed.ensures.others c.fill.ensures.others) c.open_gate.ensures.others
