use Rattle.std.proofs.Common.{sym, subst}
use Rattle.mailbox_model.specs.Mailbox.{empty_mailbox}
use Rattle.indexes.specs.Kept.{AreKept}
use Rattle.engine.proofs.engine.Engine.new.Goals as goal

pub invariant_of-result : goal.invariant_of-result
invariant_of-result c h =
    let none = empty_mailbox c.args.me in
    subst (λ m. AreKept m c.new-2.result) (sym c.new.ensures.mailbox)
    (record { cards = c.new-2.ensures.cards c.args.me; chats = c.new-2.ensures.states none; timers = c.new-2.ensures.deadlines none; order = c.new-2.ensures.order })
