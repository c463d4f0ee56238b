use Rattle.std.proofs.Common.{sym, ap, ◌∙◌, ◌++◌, None, get_or}
use Rattle.std.specs.Prelude.{filter_map}
use Rattle.std.specs.Option.{option_to_list}
use Rattle.std.proofs.lemmas.List.{append-nil, get_or_default, take_all}
use Rattle.mailbox_model.specs.declared.item.Held.TheVariants as is_held
use Rattle.mailbox_model.specs.declared.item.Item.{Item}
use Rattle.indexes.proofs.PagedFaults.{fault_of, faults_are, row_is}
use Rattle.indexes.proofs.PagedSteps.{filter_map_next}
use Rattle.indexes.proofs.pages.fault_rows.Goals.{in-Some+in_ok-push, in_default}
use Rattle.indexes.proofs.pages.fault_rows.Goals as goal

pub loop-item-init : goal.loop-item-init
loop-item-init c = c.new-faults.ensures

pub loop-item-preserved : goal.loop-item-preserved
loop-item-preserved c =
    let items = c.items-item-items.result.now in
    let none : Item = record { uid = 0; arrival = 0; seen = None; held = is_held.Card } in
    let item = get_or items c.loop-item.item-index none in
    let own = row_is item c.fault_row.result c.fault_row.ensures.card c.fault_row.ensures.fault in
    let next = filter_map_next items c.loop-item.item-index item c.loop-item-test.true (get_or_default items c.loop-item.item-index none item c.loop-item-test.true) fault_of c.loop-item.faults c.loop-item.invariant c.fault_row.result own in
    elim c.match-fault_row.branch [
      | in-Some+in_ok-push w ↦ w.faults-is ∙ w.in_ok-push.ensures.ok ∙ ap (λ o. c.loop-item.faults ++ option_to_list o) (sym w.in-Some.is) ∙ next
      | in_default w ↦ w.faults-is ∙ sym (append-nil c.loop-item.faults) ∙ ap (λ o. c.loop-item.faults ++ option_to_list o) (sym w.in_default.is) ∙ next
    ]

pub returns : goal.returns
returns c =
    let items = c.items-item-items.result.now in
    c.loop-item.invariant ∙ ap (filter_map fault_of) (take_all c.loop-item.item-index items c.loop-item-test.false ∙ c.items-item-items.ensures)
    ∙ faults_are c.args.mailbox.now.mailbox.entries
