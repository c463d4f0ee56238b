use Rattle.box_state.proofs.Changed.{kept_as}
use Rattle.box_state.proofs.Kept.{begun}
use Rattle.box_state.proofs.mailbox.Mailbox.new.Goals as goal

pub invariant_of-result : goal.invariant_of-result
invariant_of-result c =
    kept_as _ _ (begun c.args.me c.new.result c.new-2.result c.new-3.result c.new.ensures.items c.new-2.ensures c.new-3.ensures.spots c.new-3.ensures.copies)
