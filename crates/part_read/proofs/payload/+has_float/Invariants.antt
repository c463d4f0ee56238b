use Rattle.std.proofs.Common.{◌≡◌, drop}
use Rattle.serde_json.specs.View.{items_view, members_view}
use Rattle.serde_json.specs.Written.{items_have_float, members_have_float}
use Rattle.part_read.proofs.payload.+has_float.Given as goal

-- one is left exactly where there is one at all
abbrev pub invariant-items_have_float-loop-item : goal.invariant-items_have_float-loop-item
invariant-items_have_float-loop-item l =
    items_have_float (items_view (drop l.item-index l.item-items)) ≡ items_have_float (items_view l.items.items)

abbrev pub invariant-members_have_float-loop-name : goal.invariant-members_have_float-loop-name
invariant-members_have_float-loop-name l =
    (goal.iterator-members_have_float-loop-name).can_next l._name-iterator ×
    (goal.iterator-members_have_float-loop-name).is_finite l._name-iterator ×
    (members_have_float (members_view l._name-iterator) ≡ members_have_float (members_view l.members.entries))
