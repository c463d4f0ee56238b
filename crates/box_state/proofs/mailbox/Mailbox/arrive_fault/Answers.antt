use Rattle.mailbox_model.specs.declared.change.Change.TheVariants.{ArriveFault}
use Rattle.mailbox_model.proofs.RuleLaws.{change_keeps}
use Rattle.box_state.proofs.mailbox.Mailbox.arrive_fault.Goals as goal

pub put_fault-requires-clause-rules : goal.put_fault-requires-clause-rules
put_fault-requires-clause-rules c =
    rw (c.next_item-item.ensures.mailbox, c.next_item-item.ensures.item)
    (change_keeps c.args.self.now.mailbox (ArriveFault c.args.fault) c.next_item-item.ensures.rules tt c.requires.room)
