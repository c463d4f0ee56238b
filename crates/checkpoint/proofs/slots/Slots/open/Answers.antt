use Rattle.std.proofs.Common.{sym, ap, subst, ◌∙◌}
use Rattle.std.proofs.lemmas.Result.{err_from_is_err_and}
use Rattle.outside.specs.Places.{Places}
use Rattle.checkpoint.specs.Slots.{chosen_of}
use Rattle.checkpoint.specs.Kept.{kept_of, number_of}
use Rattle.checkpoint.specs.Known.{Knows}
use Rattle.checkpoint.specs.Parts.{HasChosen}
use Rattle.outside.proofs.Unchanged.{and_more}
use Rattle.checkpoint.proofs.Fronts.{chosen_is}
use Rattle.checkpoint.proofs.Found.{still_settled, knows, number_is}
use Rattle.checkpoint.proofs.slots.Slots.open.Goals as goal

pub returns-in_err-kept-clause-reads : goal.returns-in_err-kept-clause-reads
returns-in_err-kept-clause-reads g c =
    let H = g.H.Shelf in
    (and_more H.seen H.may_leave H.moment H.left_since c.args.shelf.now c.look_at_slots.new.shelf c.read_chosen.new.shelf c.look_at_slots.ensures.nothing c.read_chosen.ensures.nothing).reads

pub returns-clause-reads : goal.returns-clause-reads
returns-clause-reads g c =
    let H = g.H.Shelf in
    (and_more H.seen H.may_leave H.moment H.left_since c.args.shelf.now c.look_at_slots.new.shelf c.read_chosen.new.shelf c.look_at_slots.ensures.nothing c.read_chosen.ensures.nothing).reads

pub returns-in_err-kept-clause-gives : goal.returns-in_err-kept-clause-gives
returns-in_err-kept-clause-gives g c places is =
    let p = err_from_is_err_and c.from_residual-in_err-kept.result c.from_residual-in_err-kept.ensures.1 in
    let fronts = c.in_ok-a.ensures.fronts places is in
    let has = subst (HasChosen places) (sym c.chosen_of-chosen.ensures) (chosen_is places c.in_ok-a.a.slot c.in_ok-a.b.slot fronts.0.slot fronts.1.slot) in
    let mid = c.look_at_slots.ensures.nothing.reads.forth places is in
    let given = c.in_err-kept.ensures.gives mid.places mid.is (subst (λ (q : Places). HasChosen q c.chosen_of-chosen.result) (sym mid.holds) has) in
    rw (p.1, p.2) (rw (sym mid.holds) given)

pub returns-clause-gives : goal.returns-clause-gives
returns-clause-gives g c places is =
    let fronts = c.in_ok-a.ensures.fronts places is in
    let has = subst (HasChosen places) (sym c.chosen_of-chosen.ensures) (chosen_is places c.in_ok-a.a.slot c.in_ok-a.b.slot fronts.0.slot fronts.1.slot) in
    let mid = c.look_at_slots.ensures.nothing.reads.forth places is in
    ap kept_of (sym mid.holds) ∙ c.in_ok-kept.ensures.gives mid.places mid.is (subst (λ (q : Places). HasChosen q c.chosen_of-chosen.result) (sym mid.holds) has)

pub returns-clause-known : goal.returns-clause-known
returns-clause-known g c places is =
    let H = g.H.Shelf in
    let all = and_more H.seen H.may_leave H.moment H.left_since c.args.shelf.now c.look_at_slots.new.shelf c.read_chosen.new.shelf c.look_at_slots.ensures.nothing c.read_chosen.ensures.nothing in
    let old = all.reads.back places is in
    let fronts = c.in_ok-a.ensures.fronts old.places old.is in
    let has = subst (HasChosen old.places) (sym c.chosen_of-chosen.ensures) (chosen_is old.places c.in_ok-a.a.slot c.in_ok-a.b.slot fronts.0.slot fronts.1.slot) in
    let left = H.may_leave c.read_chosen.new.shelf in
    let settled = still_settled old.places (H.may_leave c.look_at_slots.new.shelf) left (c.in_ok-a.ensures.settled old.places old.is) c.read_chosen.ensures.nothing.outcomes in
    let next = c.slots_by.ensures.next in
    subst (Knows c.slots_by.result left) (sym old.holds)
    (knows old.places left c.slots_by.result c.chosen_of-chosen.result c.in_ok-a.a c.in_ok-a.b has fronts.0 fronts.1 (next ∙ c.next_by.ensures) (λ e. c.slots_by.ensures.a (sym next ∙ e)) (λ e. c.slots_by.ensures.b (sym next ∙ e)) settled)

pub returns-clause-number : goal.returns-clause-number
returns-clause-number g c places is =
    let H = g.H.Shelf in
    let all = and_more H.seen H.may_leave H.moment H.left_since c.args.shelf.now c.look_at_slots.new.shelf c.read_chosen.new.shelf c.look_at_slots.ensures.nothing c.read_chosen.ensures.nothing in
    let old = all.reads.back places is in
    ap (λ (q : Places). number_of (chosen_of q)) old.holds ∙ number_is (chosen_of old.places) c.in_ok-kept.kept (returns-clause-gives g c old.places old.is)
