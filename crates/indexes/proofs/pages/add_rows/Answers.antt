use Rattle.std.proofs.Common.{◌≡◌, refl, sym, ap, ◌∙◌, ◌+◌, ◌++◌, Some, take, append_assoc, arith}
use Rattle.std.specs.Prelude.{filter_map, sum_by}
use Rattle.std.specs.Option.{option_to_list}
use Rattle.std.proofs.lemmas.List.{append-nil, take_all}
use Rattle.indexes.specs.Costs.{times_named}
use Rattle.indexes.specs.Kept.{spot_at}
use Rattle.indexes.proofs.Paged.{row_there, one_row}
use Rattle.indexes.proofs.PagedSteps.{holds_at, filter_map_next, sum_next, sum_within}
use Rattle.indexes.proofs.pages.add_rows.Goals.{in-Some+in_ok-push, in_default}
use Rattle.indexes.proofs.pages.add_rows.Goals as goal

pub loop-spot-init : goal.loop-spot-init
loop-spot-init g c = record { shown = sym (append-nil c.args.rows.now); read = omega arith }

pub returns-in_err-row-clause-cost : goal.returns-in_err-row-clause-cost
returns-in_err-row-clause-cost g c =
    let m = c.args.mailbox.now.mailbox in
    omega (arith, c.loop-spot.invariant.read, c.row_at.ensures.cost, sum_within c.args.spots.now c.loop-spot.spot-index c.spot-item.result c.loop-spot-test.true c.spot-item.is (λ s. 1 + times_named m s.id))

pub returns-in_err-push-clause-cost : goal.returns-in_err-push-clause-cost
returns-in_err-push-clause-cost g c =
    let m = c.args.mailbox.now.mailbox in
    omega (arith, c.loop-spot.invariant.read, c.row_at.ensures.cost, sum_within c.args.spots.now c.loop-spot.spot-index c.spot-item.result c.loop-spot-test.true c.spot-item.is (λ s. 1 + times_named m s.id))

pub loop-spot-preserved : goal.loop-spot-preserved
loop-spot-preserved g c =
    let m = c.args.mailbox.now.mailbox in
    let spots = c.args.spots.now in
    let before = c.args.rows.now in
    let i = c.loop-spot.spot-index in
    let s = c.spot-item.result in
    let there = holds_at spots i s c.loop-spot-test.true c.spot-item.is (λ s. spot_at m s.uid ≡ Some s) c.requires.there in
    let so_far = filter_map (row_there m) (take i spots) in
    let next = filter_map_next spots i s c.loop-spot-test.true c.spot-item.is (row_there m) so_far refl c.in_ok-row.field-0 (one_row m s there c.in_ok-row.field-0 c.in_ok-row.ensures.row) in
    let added = ap (λ rows. rows ++ option_to_list c.in_ok-row.field-0) c.loop-spot.invariant.shown
    ∙ append_assoc before so_far (option_to_list c.in_ok-row.field-0) ∙ ap (λ rows. before ++ rows) next in
    record {
      shown = elim c.match-branch-2.branch [
        | in-Some+in_ok-push w ↦ w.rows-is ∙ w.in_ok-push.ensures.ok ∙ ap (λ o. c.loop-spot.rows ++ option_to_list o) (sym w.in-Some.is) ∙ added
        | in_default w ↦ w.rows-is ∙ sym (append-nil c.loop-spot.rows) ∙ ap (λ o. c.loop-spot.rows ++ option_to_list o) (sym w.in_default.is) ∙ added
      ];
      read = omega (arith, c.loop-spot.invariant.read, c.row_at.ensures.cost, sum_next spots i s c.loop-spot-test.true c.spot-item.is (λ s. 1 + times_named m s.id));
    }

pub returns-clause-rows : goal.returns-clause-rows
returns-clause-rows g c =
    c.loop-spot.invariant.shown ∙ ap (λ spots. c.args.rows.now ++ filter_map (row_there c.args.mailbox.now.mailbox) spots) (take_all c.loop-spot.spot-index c.args.spots.now c.loop-spot-test.false)

pub returns-clause-cost : goal.returns-clause-cost
returns-clause-cost g c =
    let m = c.args.mailbox.now.mailbox in
    omega (arith, c.loop-spot.invariant.read, ap (sum_by (λ s. 1 + times_named m s.id)) (take_all c.loop-spot.spot-index c.args.spots.now c.loop-spot-test.false))
