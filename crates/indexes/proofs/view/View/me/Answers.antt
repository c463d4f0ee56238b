use Rattle.std.proofs.Common.{subst}
use Rattle.mailbox_model.specs.Mailbox.{IsMailbox}
use Rattle.indexes.proofs.Viewed.{rules_seen}
use Rattle.indexes.proofs.view.View.me.Goals as goal

pub returns-clause-rules : goal.returns-clause-rules
returns-clause-rules c =
    subst IsMailbox c.self.view_is (rules_seen c.self.inside.mailbox.now.mailbox c.self.inside.coming c.me.ensures.rules c.self.invariant)
