use Rattle.std.proofs.Common.{Ok, ◌+◌, arith}
use Rattle.mailbox_model.specs.declared.change.Change.TheVariants.{Arrive}
use Rattle.mailbox_model.specs.Mailbox.{new_entry}
use Rattle.mailbox_model.proofs.RuleLaws.{change_keeps}
use Rattle.box_state.proofs.Kept.{light}
use Rattle.box_state.proofs.mailbox.Mailbox.arrive.Goals as goal

pub put_card-requires-clause-weight : goal.put_card-requires-clause-weight
put_card-requires-clause-weight c =
    let m = c.args.self.now.mailbox in
    let rules = change_keeps m (Arrive c.args.card) c.next_item-item.ensures.rules c.requires.valid c.requires.room in
    c.weight-weight.ensures.exact (omega (arith, light (record m { next_uid = m.next_uid + 1 }) (new_entry m (Ok c.args.card)) rules))

pub put_card-requires-clause-rules : goal.put_card-requires-clause-rules
put_card-requires-clause-rules c =
    rw (c.next_item-item.ensures.mailbox, c.next_item-item.ensures.item)
    (change_keeps c.args.self.now.mailbox (Arrive c.args.card) c.next_item-item.ensures.rules c.requires.valid c.requires.room)
