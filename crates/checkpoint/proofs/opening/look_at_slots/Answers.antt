use Rattle.checkpoint.specs.Parts.{IsFront}
use Rattle.outside.proofs.Unchanged.{and_more, seen_before}
use Rattle.checkpoint.proofs.opening.look_at_slots.Goals as goal

pub returns-in_err-a-clause-nothing : goal.returns-in_err-a-clause-nothing
returns-in_err-a-clause-nothing g c =
    let H = g.H.Shelf in
    and_more H.seen H.may_leave H.moment H.left_since c.args.shelf.now c.sync_slots.new.shelf c.look.new.shelf c.sync_slots.ensures.nothing c.look.ensures.nothing

pub returns-in_err-b-clause-nothing : goal.returns-in_err-b-clause-nothing
returns-in_err-b-clause-nothing g c =
    let H = g.H.Shelf in
    and_more H.seen H.may_leave H.moment H.left_since c.args.shelf.now c.look.new.shelf c.look-2.new.shelf
    (and_more H.seen H.may_leave H.moment H.left_since c.args.shelf.now c.sync_slots.new.shelf c.look.new.shelf c.sync_slots.ensures.nothing c.look.ensures.nothing) c.look-2.ensures.nothing

pub returns-clause-nothing : goal.returns-clause-nothing
returns-clause-nothing g c =
    let H = g.H.Shelf in
    and_more H.seen H.may_leave H.moment H.left_since c.args.shelf.now c.look.new.shelf c.look-2.new.shelf
    (and_more H.seen H.may_leave H.moment H.left_since c.args.shelf.now c.sync_slots.new.shelf c.look.new.shelf c.sync_slots.ensures.nothing c.look.ensures.nothing) c.look-2.ensures.nothing

pub returns-clause-fronts : goal.returns-clause-fronts
returns-clause-fronts g c places is =
    let H = g.H.Shelf in
    let old = c.args.shelf.now in
    let one = c.sync_slots.ensures.nothing in
    let two = and_more H.seen H.may_leave H.moment H.left_since old c.sync_slots.new.shelf c.look.new.shelf one c.look.ensures.nothing in (
      seen_before H.seen H.may_leave H.moment H.left_since old c.sync_slots.new.shelf (λ p. IsFront c.in_ok-a.a p.a) one c.in_ok-a.ensures.front places is,
      seen_before H.seen H.may_leave H.moment H.left_since old c.look.new.shelf (λ p. IsFront c.in_ok-b.b p.b) two c.in_ok-b.ensures.front places is,
    )
