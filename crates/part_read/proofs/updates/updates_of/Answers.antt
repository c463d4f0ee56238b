use Rattle.std.proofs.Common.{◌≡◌, ◌∙◌, Some, ap, map, map-id, rules, sym, true}
use Rattle.serde_json.specs.View.{items_view}
use Rattle.std.proofs.lemmas.Iterator.Adapters.{YieldsList-from_vec}
use Rattle.std.proofs.lemmas.Iterator.Consumers.{YieldsList-end}
use Rattle.part_read.specs.Views.{are_objects}
use Rattle.part_read.proofs.UpdateLemmas.{all_updates, no_updates, update_in}
use Rattle.part_read.proofs.updates.updates_of.Goals as goal

pub returns-then-not-are_objects-clause-value : goal.returns-then-not-are_objects-clause-value
returns-then-not-are_objects-clause-value c =
    let values = c.args.values.items in
    sym (no_updates (items_view values) (ap (λ vs. are_objects (items_view vs)) (sym c.deref.ensures.value) ∙ sym c.are_objects.ensures ∙ c.if-not-are_objects.true))

pub returns-clause-value : goal.returns-clause-value
returns-clause-value c =
    let values = c.args.values.items in
    let road = YieldsList-from_vec {s = c.into_iter-value-iterator.result} values c.into_iter-value-iterator.ensures.into_iter_gives.0 (search rules) in
    let all = (YieldsList-end road c.loop-value.yielded c.loop-value.value-iterator c.loop-value.yielded_by c.next.result c.next.new.self c.in-None.is c.next.ensures.steps).0 in
    let objects : are_objects (items_view values) ≡ true =
    ap (λ vs. are_objects (items_view vs)) (sym c.deref.ensures.value) ∙ sym c.are_objects.ensures ∙ c.if-not-are_objects.false in
    ap Some (c.loop-value.invariant.so_far ∙ ap (map update_in) (sym (map-id c.loop-value.yielded) ∙ all)) ∙ sym (all_updates values objects)
