use Rattle.std.proofs.Common.{map, ◌∙◌, ap, sym}
use Rattle.std.proofs.lemmas.Result.{err_from_is_err_and}
use Rattle.outside.specs.Places.{Places}
use Rattle.checkpoint.specs.Kept.{seen_kept}
use Rattle.tail_journal.specs.Read.{applied_of}
use Rattle.state_store.specs.Stored.{fill_in}
use Rattle.state_store.proofs.Finding.{count_is, finds, finds_none, opens_same, opens_leaving}
use Rattle.state_store.proofs.opening.find.Goals as goal

pub returns-in_err-store-clause-gives : goal.returns-in_err-store-clause-gives
returns-in_err-store-clause-gives g c places is =
    let p = err_from_is_err_and c.from_residual-in_err-store.result c.from_residual-in_err-store.ensures.1 in
    let kept = c.in_ok-slots.field-0.kept in
    let count = count_is kept ∙ sym c.count_of-number.ensures in
    let mid = c.open.ensures.reads.forth places is in
    let given = c.in_err-store.ensures.gives mid.places mid.is in
    rw (p.1, p.2) (finds_none (seen_kept kept) c.count_of-number.result count places (c.in_ok-slots.ensures.gives places is) c.in_err-store.field-0.0 (rw (sym mid.holds) given))

pub returns-in_err-store-clause-any_moment : goal.returns-in_err-store-clause-any_moment
returns-in_err-store-clause-any_moment g c places is =
    let H = g.H.Shelf in
    let mid = c.open.new.shelf in
    let kept = c.in_ok-slots.field-0.kept in
    let count = count_is kept ∙ sym c.count_of-number.ensures in
    let run = c.open.ensures.any_moment in
    opens_leaving H.seen H.may_leave H.moment H.left_since c.args.shelf.now mid c.open_tail.new.shelf (seen_kept kept) c.count_of-number.result count c.open.ensures.reads c.in_ok-slots.ensures.gives places is
    (λ (x : Places) (left : H.may_leave mid x). run.each x (g.met.H.Shelf.counts_now mid (H.moment c.args.shelf.now) x run.later left))
    (λ (q : Places) known. (c.in_ok-slots.ensures.known q known).settled) run c.open_tail.ensures.any_moment

pub returns-clause-gives : goal.returns-clause-gives
returns-clause-gives g c places is =
    let kept = c.in_ok-slots.field-0.kept in
    let count = count_is kept ∙ sym c.count_of-number.ensures in
    let mid = c.open.ensures.reads.forth places is in
    finds (seen_kept kept) c.count_of-number.result count places (c.in_ok-slots.ensures.gives places is) (map applied_of c.in_ok-store.groups.items) (rw (sym mid.holds) (c.in_ok-store.ensures.gives mid.places mid.is))

pub returns-clause-same : goal.returns-clause-same
returns-clause-same g c =
    let H = g.H.Shelf in
    let kept = c.in_ok-slots.field-0.kept in
    let count = count_is kept ∙ sym c.count_of-number.ensures in
    opens_same H.seen H.may_leave H.moment H.left_since c.args.shelf.now c.open.new.shelf c.open_tail.new.shelf (seen_kept kept) c.count_of-number.result count c.open.ensures.reads c.in_ok-slots.ensures.gives c.in_ok-store.ensures.same

pub returns-clause-any_moment : goal.returns-clause-any_moment
returns-clause-any_moment g c places is =
    let H = g.H.Shelf in
    let mid = c.open.new.shelf in
    let kept = c.in_ok-slots.field-0.kept in
    let count = count_is kept ∙ sym c.count_of-number.ensures in
    let run = c.open.ensures.any_moment in
    opens_leaving H.seen H.may_leave H.moment H.left_since c.args.shelf.now mid c.open_tail.new.shelf (seen_kept kept) c.count_of-number.result count c.open.ensures.reads c.in_ok-slots.ensures.gives places is
    (λ (x : Places) (left : H.may_leave mid x). run.each x (g.met.H.Shelf.counts_now mid (H.moment c.args.shelf.now) x run.later left))
    (λ (q : Places) known. (c.in_ok-slots.ensures.known q known).settled) run c.open_tail.ensures.any_moment

pub returns-clause-fill : goal.returns-clause-fill
returns-clause-fill g c places is =
    let mid = c.open.ensures.reads.forth places is in
    c.in_ok-store.ensures.fill mid.places mid.is ∙ ap fill_in mid.holds
