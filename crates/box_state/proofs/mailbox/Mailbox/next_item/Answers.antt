use Rattle.std.proofs.Common.{◌<◌, ◌+◌, sym, subst}
use Rattle.mailbox_model.specs.Mailbox.{end_of_uids}
use Rattle.box_state.specs.Inside.{mailbox_in}
use Rattle.box_state.proofs.Changed.{kept_as}
use Rattle.box_state.proofs.Kept.{fields_moved, uid_given}
use Rattle.box_state.proofs.mailbox.Mailbox.next_item.Goals as goal

pub invariant_of-self : goal.invariant_of-self
invariant_of-self c =
    let a = c.self.inside in
    let room = subst (λ k. k.mailbox.next_uid < end_of_uids) (sym c.self.view_is) c.requires in
    kept_as _ _ (fields_moved a c.self.invariant a.moment (a.next_uid + 1) a.ready (uid_given (mailbox_in a) c.self.invariant.rules room) c.self.invariant.room)
